use Rattle.std.proofs.Common.{◌≡◌, length, true}
use Rattle.std.specs.List.{list_all}
use Rattle.texts.specs.Bytes.{is_name_byte}
use Rattle.pep_marker.specs.Name.{normalized}
use Rattle.pep_marker.proofs.name.all_stay.Given as goal

-- what holds of the bytes that are left holds of all
abbrev pub invariant-loop-rest : goal.invariant-loop-rest
invariant-loop-rest l =
    (list_all is_name_byte l.rest ≡ true → list_all is_name_byte l.bytes ≡ true)
    × (normalized l.rest ≡ l.rest → normalized l.bytes ≡ l.bytes)

abbrev pub decreases-loop-rest : goal.decreases-loop-rest
decreases-loop-rest l = length l.rest
