use Rattle.documents.proofs.Projects.{refused_project}
use Rattle.documents.proofs.laws.refused_project_is_not_read.Goals as goal

pub returns : goal.returns
returns c = refused_project
