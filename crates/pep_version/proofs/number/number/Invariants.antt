use Rattle.std.proofs.Common.{◌≡◌, drop}
use Rattle.std.specs.Str.Parse.{digits_value, digits_value_after}
use Rattle.pep_version.proofs.number.number.Given as goal

abbrev pub invariant-loop-b : goal.invariant-loop-b
invariant-loop-b l =
    digits_value_after 10 l.value (drop l.b-index l.digits) ≡ digits_value 10 l.digits
