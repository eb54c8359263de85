use Rattle.pep_table.proofs.JoinedDemands as laws
use Rattle.pep_table.proofs.laws.own_table.Goals as goal

pub returns : goal.returns
returns c = laws.own_table
