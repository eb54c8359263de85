use Rattle.std.proofs.Common.{◌≡◌, ◌++◌, map, true, length, Option, Some, None, ℕ, suc, List, Bor}
use Rattle.std.specs.List.{AllByRecursion, list_all}
use Rattle.std.specs.Str.Parse.{digits_value}
use Rattle.pep_version.specs.Spelling.{dotted_parts, is_number}
use Rattle.texts.specs.Way.Split.{left_parts}
use Rattle.pep_version.specs.Version.{Fits}
use Rattle.pep_version.proofs.release.release_numbers.Given as goal

abbrev left_len : Option (Bor (List ℕ)) → ℕ
left_len None = 0
left_len (Some rest) = suc (length rest.now)

abbrev pub invariant-loop-rest : goal.invariant-loop-rest
invariant-loop-rest l =
    (l.numbers.items ++ map (digits_value 10) (left_parts 46 l.rest)
    ≡ map (digits_value 10) (dotted_parts l.fn.text))
    × (list_all is_number (left_parts 46 l.rest) ≡ true) × AllByRecursion Fits l.numbers.items

abbrev pub decreases-loop-rest : goal.decreases-loop-rest
decreases-loop-rest l = left_len l.rest
