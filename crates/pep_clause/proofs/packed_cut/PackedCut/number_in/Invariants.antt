use Rattle.std.proofs.Common.{length}
use Rattle.pep_clause.proofs.FrontNumbers.{DigitsSoFar}
use Rattle.pep_clause.proofs.packed_cut.PackedCut.number_in.Given as goal

abbrev pub invariant-loop-first : goal.invariant-loop-first
invariant-loop-first l = DigitsSoFar l.fn.text l.rest l.value

abbrev pub decreases-loop-first : goal.decreases-loop-first
decreases-loop-first l = length l.rest
