use Rattle.demands.proofs.Verdicts.{verdict_one}
use Rattle.demands.specs.Demand.{Listed}
use Rattle.pep_table.proofs.laws.one_verdict.Goals as goal

pub returns : goal.returns
returns c = λ q name v w h g. verdict_one (Listed q name) v w h g
