use Rattle.pep_table.proofs.JoinedDemands as laws
use Rattle.demands.specs.Demand.{Listed}
use Rattle.pep_table.specs.MergeTree.{TreeDemands}
use Rattle.pep_table.proofs.laws.joined_is_table.Goals as goal

pub returns-clause-table : goal.returns-clause-table
returns-clause-table c = λ q w. laws.joined_table (Listed q) (Listed w)

pub returns-clause-points : goal.returns-clause-points
returns-clause-points c = λ q w. laws.joined_has_points (Listed q) (Listed w)

pub returns-clause-trees : goal.returns-clause-trees
returns-clause-trees c = λ e f a b. laws.joined_table (TreeDemands e a) (TreeDemands f b)

pub returns-clause-tree_points : goal.returns-clause-tree_points
returns-clause-tree_points c = λ e f a b. laws.joined_has_points (TreeDemands e a) (TreeDemands f b)
