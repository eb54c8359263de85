use Rattle.pep_table.proofs.TableBytes as laws
use Rattle.pep_table.proofs.laws.table_lines_are_utf8.Goals as goal

pub returns : goal.returns
returns c = laws.table_utf8
