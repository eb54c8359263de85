use Rattle.demands.specs.Demand.{Listed}
use Rattle.pep_table.specs.OneText.{same_table_of}
use Rattle.pep_table.proofs.laws.one_table_of_demands.Goals as goal

pub returns : goal.returns
returns c = λ q w s t same is it. same_table_of (Listed q) (Listed w) s t same is it
