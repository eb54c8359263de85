use Rattle.std.proofs.Common.{◌≡◌, ◌∷◌, [], ◌++◌, ◌-◌, ◌≤◌, ◌==◌, false, take, length, get_or}
use Rattle.std.proofs.Common.{arith, sym, ap, ◌∙◌}
use Rattle.std.proofs.lemmas.List.{length-take-le}
use Rattle.pep_version.specs.Order.{short_release}
use Rattle.texts.proofs.ListLemmas.{last-shape}
use Rattle.pep_version.proofs.TextLemmas.{short-one, short-other, short-zero}
use Rattle.pep_version.proofs.key.short_release.Goals as goal
use Rattle.pep_version.proofs.key.short_release.Goals.{then-last-ne0-via-then-last-ne0}
use Rattle.pep_version.proofs.key.short_release.Goals.{then-last-ne0-via-else-last-ne0+then-is_empty}

pub loop-rest-preserved : goal.loop-rest-preserved
loop-rest-preserved c =
    let rest = c.loop-rest.rest.now in
    let front = take (length rest - 1) rest in
    let len : length front ≡ length rest - 1 =
    length-take-le (length rest - 1) rest (omega arith) in
    let some : 1 ≤ length front = grind arith in
    let shape : rest ≡ front ++ 0 ∷ [] =
    last-shape rest c.in-len1-up.len_at_least ∙ ap (λ n. front ++ n ∷ []) c.if-last-ne0.false in (
      sym (ap short_release shape ∙ short-zero front some) ∙ c.loop-rest.invariant.0,
      omega (arith, len, c.loop-rest.invariant.1),
    )

pub returns-then-last-ne0 : goal.returns-then-last-ne0
returns-then-last-ne0 c =
    let rest = c.loop-rest.rest.now in
    let front = take (length rest - 1) rest in
    let len : length front ≡ length rest - 1 =
    length-take-le (length rest - 1) rest (omega arith) in
    let stays : short_release rest ≡ rest = elim c.then-last-ne0.branch [
      | then-last-ne0-via-then-last-ne0 w ↦
          let other : (get_or rest (length rest - 1) 0 == 0) ≡ false = grind arith in
          let shape = last-shape rest c.in-len1-up.len_at_least in
          ap short_release shape ∙ short-other front _ other ∙ sym shape
      | then-last-ne0-via-else-last-ne0+then-is_empty w ↦ short-one rest (grind arith)
    ] in
    sym stays ∙ c.loop-rest.invariant.0
