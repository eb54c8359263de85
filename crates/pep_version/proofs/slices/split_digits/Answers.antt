use Rattle.std.proofs.Common.{◌∙◌, ap, arith, length, sym}
use Rattle.texts.proofs.ListLemmas.{to-end}
use Rattle.pep_version.specs.Way.Slices.{lower}
use Rattle.pep_version.proofs.SliceLemmas.{digits-until, digits-whole, no-digit-at}
use Rattle.pep_version.proofs.slices.split_digits.Goals as goal

pub returns-then-not-is_ascii_digit-clause-digits
    : goal.returns-then-not-is_ascii_digit-clause-digits
returns-then-not-is_ascii_digit-clause-digits c =
    let t = c.args.text.now in
    (digits-until t c.bytes.i c.bytes.invariant (no-digit-at t c.bytes.i c.bytes-test.true
    (sym c.is_ascii_digit.ensures.value ∙ c.if-not-is_ascii_digit.true))).0

pub returns-then-not-is_ascii_digit-clause-rest : goal.returns-then-not-is_ascii_digit-clause-rest
returns-then-not-is_ascii_digit-clause-rest c =
    let t = c.args.text.now in
    ap lower (to-end t c.bytes.i) ∙ (digits-until t c.bytes.i c.bytes.invariant
    (no-digit-at t c.bytes.i c.bytes-test.true (sym c.is_ascii_digit.ensures.value
    ∙ c.if-not-is_ascii_digit.true))).1

pub returns-clause-digits : goal.returns-clause-digits
returns-clause-digits c =
    (digits-whole c.args.text.now c.bytes.i (omega arith) c.bytes.invariant).0

pub returns-clause-rest : goal.returns-clause-rest
returns-clause-rest c =
    let t = c.args.text.now in
    ap lower (to-end t (length t))
    ∙ (digits-whole t c.bytes.i (omega arith) c.bytes.invariant).1
