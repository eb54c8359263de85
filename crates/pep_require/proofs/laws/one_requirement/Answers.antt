use Rattle.pep_require.proofs.LineLaws.{one_requirement}
use Rattle.pep_require.proofs.laws.one_requirement.Goals as goal

pub returns : goal.returns
returns c = one_requirement
