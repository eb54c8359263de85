use Rattle.std.proofs.Common.{◌-◌, length}
use Rattle.pep_marker.proofs.TokenLoop.{SoFar}
use Rattle.pep_marker.proofs.token.tokens_of.Given as goal

abbrev pub invariant-loop-start : goal.invariant-loop-start
invariant-loop-start l = SoFar l.text l.items.items l.start

abbrev pub decreases-loop-start : goal.decreases-loop-start
decreases-loop-start l = length l.text - l.start
