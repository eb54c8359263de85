use Rattle.pep_version.proofs.OneVersion.{one-version}
use Rattle.pep_version.proofs.laws.one_version.Goals as goal

pub returns : goal.returns
returns c = one-version
