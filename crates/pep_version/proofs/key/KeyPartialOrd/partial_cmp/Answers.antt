use Rattle.std.proofs.Common.{Some, ap}
use Rattle.pep_version.proofs.key.KeyPartialOrd.partial_cmp.Goals as goal

pub returns : goal.returns
returns c = ap Some c.cmp.ensures
