use Rattle.pep_clause.proofs.EndRows.{admits-between}
use Rattle.pep_clause.proofs.laws.ends_of_operators.Goals as goal

pub returns : goal.returns
returns c = admits-between
