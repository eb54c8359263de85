use Rattle.pep_require.proofs.FaultLaws.{one_fault}
use Rattle.pep_require.proofs.laws.one_fault.Goals as goal

pub returns : goal.returns
returns c = one_fault
