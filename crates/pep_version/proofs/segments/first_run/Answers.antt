use Rattle.std.proofs.Common.{◌≡◌, ◌∙◌, ◌+◌, ◌∷◌, ◌≤◌, ap, arith, false, get_or, length, sym, take}
use Rattle.std.proofs.lemmas.List.{take_all}
use Rattle.std.proofs.lemmas.List.Elements.{All-more}
use Rattle.pep_version.specs.Way.Slices.{lower}
use Rattle.pep_version.specs.Spelling.{separated_parts}
use Rattle.texts.specs.Bytes.{is_separator}
use Rattle.texts.proofs.ListLemmas.{to-end}
use Rattle.pep_version.proofs.SliceLemmas.{run-at, run-whole}
use Rattle.pep_version.proofs.segments.first_run.Goals as goal

pub returns-then-is_separator-clause-runs : goal.returns-then-is_separator-clause-runs
returns-then-is_separator-clause-runs c =
    let t = c.args.text.now in
    run-at t c.bytes.i c.bytes-test.true c.bytes.invariant (sym c.is_separator.ensures
    ∙ c.if-is_separator.true) ∙ ap (λ l. lower (take c.bytes.i t)
    ∷ separated_parts (lower l)) (sym (to-end t (c.bytes.i + 1)))

pub bytes-preserved : goal.bytes-preserved
bytes-preserved c =
    let other : is_separator (get_or c.args.text.now c.bytes.i 0) ≡ false =
    sym c.is_separator.ensures ∙ c.if-is_separator.false in
    All-more (λ b. is_separator b ≡ false) c.args.text.now c.bytes.i 0 c.bytes-test.true
    c.bytes.invariant other

pub returns-clause-runs : goal.returns-clause-runs
returns-clause-runs c =
    let all : length c.args.text.now ≤ c.bytes.i = omega arith in
    run-whole c.args.text.now (rw (take_all c.bytes.i c.args.text.now all) at c.bytes.invariant)
