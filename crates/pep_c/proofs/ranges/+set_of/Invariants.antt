use Rattle.std.proofs.Common.{length}
use Rattle.pep_c.proofs.ranges.+set_of.Given as goal

abbrev pub decreases-set_of : goal.decreases-set_of
decreases-set_of l = length l.clauses.now
