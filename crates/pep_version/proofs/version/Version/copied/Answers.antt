use Rattle.std.proofs.Common.{rules}
use Rattle.pep_version.proofs.version.Version.copied.Goals as goal

pub returns-clause-same : goal.returns-clause-same
returns-clause-same c = search rules
