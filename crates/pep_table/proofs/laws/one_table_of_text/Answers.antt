use Rattle.pep_table.proofs.TextFronts as laws
use Rattle.pep_table.proofs.laws.one_table_of_text.Goals as goal

pub returns-clause-read : goal.returns-clause-read
returns-clause-read c = laws.read_as_one

pub returns-clause-printed : goal.returns-clause-printed
returns-clause-printed c = laws.one_table_of_text

pub returns-clause-apart : goal.returns-clause-apart
returns-clause-apart c = laws.text_no_lines
