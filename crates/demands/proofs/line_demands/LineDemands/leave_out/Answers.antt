use Rattle.std.proofs.Common.{refl, subst}
use Rattle.demands.specs.Way.LineDemands.{AddsClause}
use Rattle.demands.specs.Way.LineSets.{left_by, line_sets, line_versions}
use Rattle.demands.specs.Way.Others.{entry_with}
use Rattle.demands.specs.Way.PartialJoins.{joined_sets}
use Rattle.demands.proofs.KeptVersions.{met-versions}
use Rattle.demands.proofs.LineParts.{clause_added}
use Rattle.demands.proofs.LineSets.{left-met, left-normal, other_sets}
use Rattle.demands.proofs.line_demands.LineDemands.leave_out.Goals as goal

pub invariant_of-self-2 : goal.invariant_of-self-2
invariant_of-self-2 c =
    let i = c.self.inside in (
      other_sets i.range i.left_out.items c.push.new.self.items i.sets.items i.sets.items c.self.invariant.0
          (left-normal i.left_out.items c.push.new.self.items c.args.range i.sets.items c.in_ok-push.ensures.items
          c.self.invariant.0.normal c.requires),
      c.self.invariant.1,
    )

pub returns : goal.returns
returns c =
    let i = c.self.inside in
    let sets = i.sets.items in
    let more = c.push.new.self.items in
    let old = entry_with i.others (line_versions i.range i.left_out.items sets) in
    let new = entry_with i.others (line_versions i.range more sets) in
    λ clause d. subst (λ e. AddsClause clause e new) c.self.view_is
    (clause_added clause (left_by c.args.range) old new d refl refl refl
    (met-versions i.range.low i.range.high (joined_sets (line_sets i.left_out.items sets))
    (joined_sets (line_sets more sets)) (left_by c.args.range) c.self.invariant.0.kept
    (left-met i.left_out.items more c.args.range sets c.in_ok-push.ensures.items c.self.invariant.0.normal c.requires)))
