use Rattle.std.proofs.Common.{rules}
use Rattle.pep_version.proofs.key.Key.of.Goals as goal

pub returns-clause-place : goal.returns-clause-place
returns-clause-place c = search rules
