use Rattle.std.proofs.Common.{rules}
use Rattle.faults.proofs.fault.Cause.code.Goals as goal

pub returns-in-WriteFault : goal.returns-in-WriteFault
returns-in-WriteFault c = search rules
