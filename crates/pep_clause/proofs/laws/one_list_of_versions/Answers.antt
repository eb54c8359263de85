use Rattle.pep_clause.proofs.SameVersions.{same_versions}
use Rattle.pep_clause.proofs.laws.one_list_of_versions.Goals as goal

pub returns : goal.returns
returns c = same_versions
