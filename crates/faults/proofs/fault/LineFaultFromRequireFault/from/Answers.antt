use Rattle.std.proofs.Common.{rules}
use Rattle.faults.proofs.fault.LineFaultFromRequireFault.from.Goals as goal

pub returns : goal.returns
returns c = search rules
