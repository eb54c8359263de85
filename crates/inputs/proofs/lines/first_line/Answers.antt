use Rattle.std.proofs.Common.{◌≡◌, ◌+◌, ◌==◌, ◌∷◌, [], arith, drop, subst, take}
use Rattle.std.specs.List.{slice_split}
use Rattle.texts.proofs.SplitLemmas.{split-at, split-whole}
use Rattle.inputs.proofs.FirstLines.{none_at_all, none_before}
use Rattle.inputs.proofs.lines.first_line.Goals as goal

pub returns-in-Some-clause-parts : goal.returns-in-Some-clause-parts
returns-in-Some-clause-parts c =
    let found = c.in-Some.ensures in
    let at = c.in-Some.at in
    let bytes = c.bytes.result.now in
    rw (c.cut.ensures.front, c.cut.ensures.behind)
    (subst (λ t. slice_split (λ b. b == 10) t ≡ take at t ∷ slice_split (λ b. b == 10) (drop (at + 1) t))
    c.bytes.ensures
    (split-at (λ b. b == 10) bytes at found.0.high
    (none_before (λ b. b == 10) bytes at (omega (arith, found.0.high)) found.0.before) found.1))

pub returns-in-None-clause-parts : goal.returns-in-None-clause-parts
returns-in-None-clause-parts c =
    subst (λ t. slice_split (λ b. b == 10) t ≡ t ∷ []) c.bytes.ensures
    (split-whole (λ b. b == 10) c.bytes.result.now
    (none_at_all (λ b. b == 10) c.bytes.result.now c.in-None.ensures))
