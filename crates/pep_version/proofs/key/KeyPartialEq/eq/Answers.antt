use Rattle.std.proofs.Common.{rules}
use Rattle.pep_version.proofs.key.KeyPartialEq.eq.Goals as goal

pub returns : goal.returns
returns c = search rules
