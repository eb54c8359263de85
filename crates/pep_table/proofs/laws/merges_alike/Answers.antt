use Rattle.pep_table.proofs.MergeLaws as laws
use Rattle.pep_table.proofs.laws.merges_alike.Goals as goal

pub returns : goal.returns
returns c = laws.merges_alike
