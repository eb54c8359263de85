use Rattle.pep_table.specs.OneText as laws
use Rattle.inputs.specs.Gathered.{Gathered}
use Rattle.inputs.proofs.SameInputs as inputs
use Rattle.inputs.proofs.laws.one_text_of_lines.Goals as goal

pub returns : goal.returns
returns c = λ e a b x y m n same.
    laws.one_text e (Gathered e a) (Gathered e b) m.table n.table x y
    (inputs.same_lines e a b m.accepted n.accepted same) m.is_table n.is_table
    m.text n.text
