use Rattle.pep_clause.proofs.CutBytes.{cuts-keep}
use Rattle.pep_clause.proofs.laws.cuts_keep_order.Goals as goal

pub returns : goal.returns
returns c = cuts-keep
