use Rattle.reasons.proofs.PointOrder.{RisesTo}
use Rattle.reasons.proofs.apart.are_rising.Given as goal

abbrev pub invariant-loop-index : goal.invariant-loop-index
invariant-loop-index l = RisesTo l.points l.index
