use Rattle.pep_version.proofs.KeyOrder.{keys-keep}
use Rattle.pep_version.proofs.laws.keys_keep_order.Goals as goal

pub returns : goal.returns
returns c = keys-keep
