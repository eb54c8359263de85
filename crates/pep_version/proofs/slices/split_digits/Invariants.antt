use Rattle.std.proofs.Common.{◌≡◌, take, true}
use Rattle.std.specs.Char.{is_ascii_digit}
use Rattle.std.specs.List.{list_all}
use Rattle.pep_version.proofs.slices.split_digits.Given as goal

abbrev pub invariant-bytes : goal.invariant-bytes
invariant-bytes l = list_all is_ascii_digit (take l.i l.text) ≡ true
