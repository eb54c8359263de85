use Rattle.pep_table.proofs.JoinedDemands as laws
use Rattle.inputs.specs.Origins.{OriginDemands}
use Rattle.inputs.proofs.laws.gathered_are_joined.Goals as goal

pub returns-clause-table : goal.returns-clause-table
returns-clause-table c = λ e o p. laws.joined_table (OriginDemands e o) (OriginDemands e p)

pub returns-clause-points : goal.returns-clause-points
returns-clause-points c = λ e o p. laws.joined_has_points (OriginDemands e o) (OriginDemands e p)
