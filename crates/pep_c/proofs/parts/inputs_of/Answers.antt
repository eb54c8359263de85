use Rattle.std.proofs.Common.{arith}
use Rattle.pep_require.proofs.Exits.{handed_on}
use Rattle.pep_c.proofs.PartLemmas.{cut_more, part_refused, too_many}
use Rattle.pep_c.specs.declared.parts.Part.{Part}
use Rattle.pep_c.proofs.parts.inputs_of.Goals as goal

abbrev none : Part
none = record { kind = 0; size = 0; group_size = 0 }

pub returns-in_err-input-clause-refused : goal.returns-in_err-input-clause-refused
returns-in_err-input-clause-refused c =
    let exit = c.from_residual-in_err-input in
    handed_on _ exit.result _ exit.ensures.1
    (part_refused c.args.parts.now c.loop-part.part-index none c.args.bytes.now c.loop-part.left.now
    c.loop-part.inputs.items _ c.loop-part-test.true c.loop-part.invariant c.in_err-input.ensures.refused)

pub loop-part-preserved : goal.loop-part-preserved
loop-part-preserved c =
    cut_more c.args.parts.now c.loop-part.part-index none c.args.bytes.now c.loop-part.left.now _
    c.loop-part.inputs.items _ c.in_ok-input.input c.loop-part-test.true c.loop-part.invariant
    c.in_ok-input.ensures.input c.in_ok-push.ensures.items

pub returns-else-is_empty-clause-refused : goal.returns-else-is_empty-clause-refused
returns-else-is_empty-clause-refused c =
    too_many c.args.parts.now c.loop-part.part-index c.args.bytes.now c.loop-part.left.now
    c.loop-part.inputs.items c.loop-part-test.false c.loop-part.invariant (grind arith)
