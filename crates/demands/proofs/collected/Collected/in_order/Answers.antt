use Rattle.std.proofs.Common.{subst}
use Rattle.pep_require.specs.Requirement.{IsAscending}
use Rattle.demands.proofs.KeptSets.{collected_rise}
use Rattle.demands.proofs.collected.Collected.in_order.Goals as goal

pub returns : goal.returns
returns c = subst IsAscending c.self.view_is (collected_rise c.self.inside.texts)
