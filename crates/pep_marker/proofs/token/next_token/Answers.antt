use Rattle.std.proofs.Common.{◌<◌, ◌∙◌, length, get_or, subst, sym}
use Rattle.std.proofs.lemmas.Str.{IsCharBoundary-after_ascii}
use Rattle.pep_marker.proofs.FoundTokens.{quote-ascii}
use Rattle.pep_marker.proofs.token.next_token.Goals as goal

pub range_from-requires : goal.range_from-requires
range_from-requires c =
    let quote : get_or c.as_bytes.result.now 0 0 < 128 =
    quote-ascii _ (sym c.is_quote.ensures ∙ c.if-is_quote.true) in
    let first : get_or c.args.text.now 0 0 < 128 =
    subst (λ x. get_or x 0 0 < 128) c.as_bytes.ensures.value quote in
    let some : 0 < length c.args.text.now =
    subst (λ x. 0 < length x) c.as_bytes.ensures.value c.in-len1-up.len_at_least in
    λ _. IsCharBoundary-after_ascii c.args.text.now 0 c.utf8.text some first
