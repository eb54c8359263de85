use Rattle.std.proofs.Common.{◌≡◌, ◌∙◌, sym}
use Rattle.texts.proofs.SpaceLemmas.{trailing-shorter, trailing-stop}
use Rattle.texts.specs.Space.{without_trailing_space}
use Rattle.texts.proofs.space.without_trailing_space.Goals as goal

pub loop-last-preserved : goal.loop-last-preserved
loop-last-preserved c = (
  c.range-rest.utf8,
  trailing-shorter c.loop-last.rest.now c.as_bytes.result.now c.range-rest.result.now
      c.as_bytes.ensures.value c.in-len1-up.len_at_least
      (sym c.is_white_space.ensures ∙ c.if-not-is_white_space.false) c.range-rest.ensures.value
      ∙ c.loop-last.invariant.1,
)

pub returns-then-not-is_white_space : goal.returns-then-not-is_white_space
returns-then-not-is_white_space c =
    let bytes : c.as_bytes.result.now ≡ c.loop-last.rest.now = c.as_bytes.ensures.value in
    let stop : without_trailing_space c.as_bytes.result.now ≡ c.as_bytes.result.now =
    trailing-stop c.as_bytes.result.now c.in-len1-up.len_at_least (sym c.is_white_space.ensures
    ∙ c.if-not-is_white_space.true) in
    sym bytes ∙ sym stop ∙ (λ i. without_trailing_space (bytes i)) ∙ c.loop-last.invariant.1
