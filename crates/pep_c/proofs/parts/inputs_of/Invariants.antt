use Rattle.pep_c.proofs.PartLemmas.{CutSoFar}
use Rattle.pep_c.proofs.parts.inputs_of.Given as goal

-- the inputs so far are the parts so far, and stand in front of what is left
abbrev pub invariant-loop-part : goal.invariant-loop-part
invariant-loop-part l = CutSoFar l.parts l.part-index l.bytes l.left l.inputs.items
