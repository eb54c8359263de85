use Rattle.pep_clause.proofs.PackedRead.{packed_cuts_keep_order}
use Rattle.pep_clause.proofs.laws.packed_cuts_keep_order.Goals as goal

pub returns : goal.returns
returns c = packed_cuts_keep_order
