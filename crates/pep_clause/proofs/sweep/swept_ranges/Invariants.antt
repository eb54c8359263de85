use Rattle.std.proofs.Common.{◌+◌, length}
use Rattle.pep_clause.proofs.Sweeping.{SweepState}
use Rattle.pep_clause.proofs.sweep.swept_ranges.Given as goal

abbrev pub invariant-sweep : goal.invariant-sweep
invariant-sweep l =
    SweepState l.fn.ranges l.fn.other_ranges l.initial.turns.passed l.done.items l.left l.right
    l.turns.passed

abbrev pub decreases-sweep : goal.decreases-sweep
decreases-sweep l = length l.left + length l.right
