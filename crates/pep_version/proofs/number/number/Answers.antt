use Rattle.std.proofs.Common.{◌+◌, ◌*◌, drop, get_or, arith}
use Rattle.std.specs.Char.{digit_value}
use Rattle.pep_version.proofs.NumberLemmas.{value-grows, value-next}
use Rattle.pep_version.proofs.number.number.Goals as goal

pub returns-in_default : goal.returns-in_default
returns-in_default c =
    let step = value-next c.loop-b.value c.args.digits.now c.loop-b.b-index c.loop-b-test.true in
    let grows =
    value-grows (c.loop-b.value * 10
    + digit_value (get_or c.args.digits.now c.loop-b.b-index 0))
    (drop (c.loop-b.b-index + 1) c.args.digits.now) in
    omega (arith, step, grows, c.loop-b.invariant, c.in_default.ensures.none)
