use Rattle.std.proofs.Common.{rules}
use Rattle.specifiers.proofs.fault.ClauseFaultFromVersionFault.from.Goals as goal

pub returns-in-NumberTooLarge : goal.returns-in-NumberTooLarge
returns-in-NumberTooLarge c = search rules
