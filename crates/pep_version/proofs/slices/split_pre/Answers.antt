use Rattle.std.proofs.Common.{rules}
use Rattle.pep_version.proofs.slices.split_pre.Goals as goal

pub returns-clause-part : goal.returns-clause-part
returns-clause-part c = search rules
