use Rattle.pep_table.specs.OneText as texts
use Rattle.inputs.specs.Gathered.{Gathered}
use Rattle.inputs.proofs.laws.one_table.Goals as goal

pub returns : goal.returns
returns c = λ e f a b s t same is it. texts.same_table_of (Gathered e a) (Gathered f b) s t same is it
