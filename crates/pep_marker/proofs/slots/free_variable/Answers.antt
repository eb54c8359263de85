use Rattle.std.proofs.Common.{◌∙◌, ap, sym}
use Rattle.pep_marker.specs.Environment.{is_value, variable_of}
use Rattle.pep_marker.proofs.SlotLemmas.{free-slot, slot_fault-bad, slot_fault-repeated}
use Rattle.pep_marker.proofs.SlotLemmas.{slot_fault-unknown, taken-slot}
use Rattle.pep_marker.proofs.slots.free_variable.Goals as goal

pub returns-in_default-clause-refused : goal.returns-in_default-clause-refused
returns-in_default-clause-refused c =
    slot_fault-unknown c.args.slots.now (c.args.name.now, c.args.text.now)
    (ap variable_of (sym c.as_bytes.ensures.value) ∙ sym c.of_name.ensures ∙ c.in_default.is)

pub returns-then-is_some-clause-refused : goal.returns-then-is_some-clause-refused
returns-then-is_some-clause-refused c =
    slot_fault-repeated c.args.slots.now (c.args.name.now, c.args.text.now) c.in-Some.variable
    (ap variable_of (sym c.as_bytes.ensures.value) ∙ sym c.of_name.ensures ∙ c.in-Some.is)
    (taken-slot c.args.slots.now c.in-Some.variable c.place.result c.is_some.result
    c.place.ensures.place c.is_some.ensures ∙ c.if-is_some.true)

pub returns-then-not-is_value-clause-refused : goal.returns-then-not-is_value-clause-refused
returns-then-not-is_value-clause-refused c =
    slot_fault-bad c.args.slots.now (c.args.name.now, c.args.text.now) c.in-Some.variable
    (ap variable_of (sym c.as_bytes.ensures.value) ∙ sym c.of_name.ensures ∙ c.in-Some.is)
    (free-slot c.args.slots.now c.in-Some.variable c.place.result c.is_some.result
    c.place.ensures.place c.is_some.ensures c.if-is_some.false)
    (ap is_value (sym c.as_bytes-2.ensures.value) ∙ sym c.is_value.ensures
    ∙ c.if-not-is_value.true)

pub returns-clause-free : goal.returns-clause-free
returns-clause-free c =
    free-slot c.args.slots.now c.in-Some.variable c.place.result c.is_some.result
    c.place.ensures.place c.is_some.ensures c.if-is_some.false
