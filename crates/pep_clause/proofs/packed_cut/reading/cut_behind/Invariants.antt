use Rattle.std.proofs.Common.{length}
use Rattle.pep_clause.proofs.WrittenReleases.{NumbersSoFar}
use Rattle.pep_clause.proofs.packed_cut.reading.cut_behind.Given as goal

abbrev pub invariant-loop-number : goal.invariant-loop-number
invariant-loop-number l = NumbersSoFar l.text l.left l.numbers l.count

abbrev pub decreases-loop-number : goal.decreases-loop-number
decreases-loop-number l = length l.left
