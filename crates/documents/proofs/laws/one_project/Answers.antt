use Rattle.documents.proofs.Projects.{one_project}
use Rattle.documents.proofs.laws.one_project.Goals as goal

pub returns : goal.returns
returns c = one_project
