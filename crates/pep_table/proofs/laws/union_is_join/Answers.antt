use Rattle.demands.specs.JoinLaws.{IsJoin-IsUnion}
use Rattle.pep_table.proofs.laws.union_is_join.Goals as goal

pub returns : goal.returns
returns c = IsJoin-IsUnion
