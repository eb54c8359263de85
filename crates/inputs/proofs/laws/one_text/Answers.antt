use Rattle.std.proofs.Common.{◌++◌, ◌∙◌, ap, sym}
use Rattle.pep_table.specs.OneText as laws
use Rattle.inputs.specs.Gathered.{Gathered}
use Rattle.inputs.proofs.laws.one_text.Goals as goal

pub returns : goal.returns
returns c = λ e f a b x y headers m n same.
    laws.one_text e (Gathered e a) (Gathered f b) m.table n.table x y same m.is_table n.is_table m.text
    (n.text.0, n.text.1, n.text.2 ∙ ap (λ z. z ++ n.text.0) (sym headers))
