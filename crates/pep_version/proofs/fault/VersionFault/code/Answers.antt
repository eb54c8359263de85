use Rattle.std.proofs.Common.{rules}
use Rattle.pep_version.proofs.fault.VersionFault.code.Goals as goal

pub returns-in-NoMemory : goal.returns-in-NoMemory
returns-in-NoMemory c = search rules
