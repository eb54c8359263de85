use Rattle.std.proofs.Common.{rules}
use Rattle.demands.proofs.package_demands.PackageDemands.join.Goals as goal

pub returns-clause-joined : goal.returns-clause-joined
returns-clause-joined c = search rules
