use Rattle.pep_table.proofs.MergeLaws.{tree_table}
use Rattle.pep_table.proofs.laws.tree_is_table.Goals as goal

pub returns : goal.returns
returns c = tree_table
