use Rattle.std.proofs.Common.{rules}
use Rattle.faults.proofs.fault.LineFault.inner_code.Goals as goal

pub returns-in-Requirement : goal.returns-in-Requirement
returns-in-Requirement c = search rules
