use Rattle.pep_table.specs.OneText as laws
use Rattle.pep_table.proofs.laws.one_table_text.Goals as goal

pub returns : goal.returns
returns c = laws.one_text_in
