use Rattle.pep_clause.proofs.OneList.{same_points}
use Rattle.pep_clause.proofs.laws.one_list.Goals as goal

pub returns : goal.returns
returns c = same_points
