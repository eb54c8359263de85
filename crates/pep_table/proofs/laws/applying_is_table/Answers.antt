use Rattle.pep_table.proofs.Taking as laws
use Rattle.demands.specs.Demand.{Listed}
use Rattle.pep_table.proofs.laws.applying_is_table.Goals as goal

pub returns : goal.returns
returns c = λ e q rs s t. laws.applying_is_table e (Listed q) s rs t
