use Rattle.std.proofs.Common.{◌≡◌, ◌∙◌, ap, length}
use Rattle.std.proofs.lemmas.List.{length-map, take_all}
use Rattle.pep_marker.specs.Environment.{variables}
use Rattle.pep_marker.specs.Way.Slots.{slot_texts}
use Rattle.pep_marker.proofs.SlotLemmas.{IsEnvironment-slots}
use Rattle.pep_marker.proofs.environment.Environment.of_slots.Goals as goal

pub invariant_of-result : goal.invariant_of-result
invariant_of-result c =
    let slots = c.args.slots.now in
    let texts = c.loop-slot.values.items in
    let same : texts ≡ slot_texts slots =
    c.loop-slot.invariant
    ∙ ap slot_texts (take_all c.loop-slot.slot-index slots (rw c.told-slots c.loop-slot-test.false)) in
    let counted : length texts ≡ length variables =
    ap length same ∙ length-map slots _ ∙ c.told-slots in
    (counted, IsEnvironment-slots slots _ c.requires same)
