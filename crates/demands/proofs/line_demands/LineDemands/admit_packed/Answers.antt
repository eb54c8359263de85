use Rattle.std.proofs.Common.{subst}
use Rattle.std.proofs.lemmas.Result.{on_ok_weaker}
use Rattle.pep_clause.specs.VersionSet.{IsNormal}
use Rattle.demands.specs.Way.LineDemands.{DemandsRanges}
use Rattle.demands.proofs.LineSets.{inside_ranges, outside_ranges}
use Rattle.demands.proofs.line_demands.LineDemands.admit_packed.Goals as goal

pub leave_out-requires : goal.leave_out-requires
leave_out-requires c = subst IsNormal (outside_ranges c.args.versions.now c.if-versions.true) c.requires

pub returns-then-versions : goal.returns-then-versions
returns-then-versions c =
    on_ok_weaker c.leave_out.result (λ h clause d. h clause
    (subst (DemandsRanges clause) (outside_ranges c.args.versions.now c.if-versions.true) d)) c.leave_out.ensures

pub returns : goal.returns
returns c =
    λ clause d. c.meet.ensures clause
    (subst (DemandsRanges clause) (inside_ranges c.args.versions.now c.if-versions.false) d)
