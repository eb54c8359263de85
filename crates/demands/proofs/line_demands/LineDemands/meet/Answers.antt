use Rattle.std.proofs.Common.{refl, subst}
use Rattle.pep_clause.specs.OperatorTable.{range}
use Rattle.demands.specs.Way.LineDemands.{AddsClause}
use Rattle.demands.specs.Way.LineSets.{line_sets, line_versions}
use Rattle.demands.specs.Way.Others.{entry_with}
use Rattle.demands.specs.Way.PartialJoins.{joined_sets}
use Rattle.demands.proofs.KeptVersions.{narrowed-versions}
use Rattle.demands.proofs.LineParts.{clause_added}
use Rattle.demands.proofs.line_demands.LineDemands.meet.Goals as goal

pub returns : goal.returns
returns c =
    let i = c.self.inside in
    let new = c.meet.new.self in
    let outs = i.left_out.items in
    let sets = i.sets.items in
    let ranges = range c.args.other.low c.args.other.high in
    let after = entry_with i.others (line_versions new outs sets) in
    λ clause d. subst (λ e. AddsClause clause e after) c.self.view_is
    (clause_added clause ranges (entry_with i.others (line_versions i.range outs sets)) after d refl refl refl
    (narrowed-versions i.range.low i.range.high new.low new.high (joined_sets (line_sets outs sets)) ranges
    c.self.invariant.0.kept c.meet.ensures.spelled c.meet.ensures.points))
