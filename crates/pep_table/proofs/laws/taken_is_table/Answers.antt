use Rattle.pep_table.proofs.Taking as laws
use Rattle.demands.specs.Demand.{Listed}
use Rattle.pep_table.proofs.laws.taken_is_table.Goals as goal

pub returns : goal.returns
returns c = λ q s t r. laws.taken_is_table (Listed q) s r t
