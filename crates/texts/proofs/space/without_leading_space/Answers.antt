use Rattle.std.proofs.Common.{◌<◌, ◌∙◌, length, get_or, subst, sym}
use Rattle.std.proofs.lemmas.Str.{IsCharBoundary-after_ascii}
use Rattle.texts.proofs.SpaceLemmas.{white-ascii}
use Rattle.texts.proofs.space.without_leading_space.Goals as goal

pub range_from-rest-requires : goal.range_from-rest-requires
range_from-rest-requires c =
    let white : get_or c.as_bytes.result.now 0 0 < 128 =
    white-ascii _ (sym c.is_white_space.ensures ∙ c.if-not-is_white_space.false) in
    let first : get_or c.loop-first.rest.now 0 0 < 128 =
    subst (λ xs. get_or xs 0 0 < 128) c.as_bytes.ensures.value white in
    let some : 0 < length c.loop-first.rest.now =
    subst (λ xs. 0 < length xs) c.as_bytes.ensures.value c.in-len1-up.len_at_least in
    λ _. IsCharBoundary-after_ascii c.loop-first.rest.now 0 c.loop-first.invariant.0 some first
