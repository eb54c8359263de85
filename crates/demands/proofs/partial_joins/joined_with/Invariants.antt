use Rattle.std.proofs.Common.{length}
use Rattle.pep_clause.specs.Way.Joined.{joined}
use Rattle.demands.specs.Way.PartialJoins.{joined_sets}
use Rattle.demands.proofs.PartialJoins.{JoinsTo}
use Rattle.demands.proofs.partial_joins.joined_with.Given as goal

abbrev pub invariant-sets : goal.invariant-sets
invariant-sets l = JoinsTo (joined (joined_sets l.fn.sets.items) l.fn.kept) l.left.items l.all

abbrev pub decreases-sets : goal.decreases-sets
decreases-sets l = length l.left.items
