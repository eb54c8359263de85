use Rattle.std.proofs.Common.{◌≡◌, take}
use Rattle.pep_marker.specs.Way.Slots.{slot_texts}
use Rattle.pep_marker.proofs.environment.Environment.of_slots.Given as goal

-- the texts of the slots so far
abbrev pub invariant-loop-slot : goal.invariant-loop-slot
invariant-loop-slot l = l.values.items ≡ slot_texts (take l.slot-index l.slots)
