use Rattle.std.proofs.Common.{map}
use Rattle.std.specs.Str.Parse.{digits_value}
use Rattle.texts.specs.Way.Split.{left_parts}
use Rattle.pep_version.proofs.NumberLemmas.{too-large}
use Rattle.pep_version.proofs.release.release_numbers.Goals as goal

pub returns-in_default-number : goal.returns-in_default-number
returns-in_default-number c =
    let whole = rw (c.in-Some.is, c.first_part.ensures.parts) at c.loop-rest.invariant.0 in
    too-large c.loop-rest.numbers.items (digits_value 10 c.first_part.result.0.now)
    (map (digits_value 10) (left_parts 46 c.first_part.result.1)) _ whole
    c.in_default-number.ensures
