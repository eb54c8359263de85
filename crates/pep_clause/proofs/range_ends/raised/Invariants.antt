use Rattle.std.proofs.Common.{◌≡◌, ◌≤◌, length}
use Rattle.pep_clause.specs.OperatorTable.{raised}
use Rattle.pep_clause.proofs.range_ends.raised.Given as goal

abbrev pub invariant-loop-rest : goal.invariant-loop-rest
invariant-loop-rest l = (raised l.rest ≡ raised l.release) × (length l.rest ≤ length l.release)

abbrev pub decreases-loop-rest : goal.decreases-loop-rest
decreases-loop-rest l = length l.rest
