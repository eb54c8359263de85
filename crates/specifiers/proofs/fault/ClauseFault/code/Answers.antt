use Rattle.std.proofs.Common.{rules}
use Rattle.specifiers.proofs.fault.ClauseFault.code.Goals as goal

pub returns-in-OneNumber : goal.returns-in-OneNumber
returns-in-OneNumber c = search rules
