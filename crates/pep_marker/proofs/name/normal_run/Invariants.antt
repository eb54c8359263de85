use Rattle.std.proofs.Common.{false, length}
use Rattle.pep_marker.proofs.NormalRuns.{IsRead}
use Rattle.pep_marker.proofs.name.normal_run.Given as goal

abbrev pub invariant-loop-left : goal.invariant-loop-left
invariant-loop-left l = IsRead l.text l.left false

abbrev pub decreases-loop-left : goal.decreases-loop-left
decreases-loop-left l = length l.left
