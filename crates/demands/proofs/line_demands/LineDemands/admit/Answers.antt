use Rattle.std.proofs.Common.{subst, sym}
use Rattle.pep_clause.specs.VersionSet.{IsNormal}
use Rattle.demands.specs.Way.LineDemands.{DemandsRanges}
use Rattle.demands.proofs.line_demands.LineDemands.admit.Goals as goal

pub admit_packed-requires : goal.admit_packed-requires
admit_packed-requires c = subst IsNormal (sym c.in-Some.ensures.ranges) c.ranges-2.ensures.normal

pub returns-in_ok-admit_packed-in-Some-clause-added : goal.returns-in_ok-admit_packed-in-Some-clause-added
returns-in_ok-admit_packed-in-Some-clause-added c =
    λ clause d. c.in_ok-admit_packed-in-Some.ensures clause
    (subst (DemandsRanges clause) (sym c.in-Some.ensures.ranges) d)
