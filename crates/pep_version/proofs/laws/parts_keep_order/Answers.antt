use Rattle.pep_version.proofs.KeyOrder.{parts-keep}
use Rattle.pep_version.proofs.laws.parts_keep_order.Goals as goal

pub returns : goal.returns
returns c = parts-keep
