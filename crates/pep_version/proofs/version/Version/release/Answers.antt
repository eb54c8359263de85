use Rattle.std.proofs.Common.{rules}
use Rattle.pep_version.proofs.version.Version.release.Goals as goal

pub returns-clause-numbers : goal.returns-clause-numbers
returns-clause-numbers c = search rules
