use Rattle.std.proofs.Common.{refl, subst}
use Rattle.demands.specs.Way.LineDemands.{AddsClause}
use Rattle.demands.specs.Way.LineSets.{line_sets, line_versions}
use Rattle.demands.specs.Way.Others.{entry_with}
use Rattle.demands.specs.Way.PartialJoins.{joined_sets}
use Rattle.demands.proofs.KeptVersions.{met-versions}
use Rattle.demands.proofs.LineParts.{clause_added}
use Rattle.demands.proofs.LineSets.{other_sets, set-met, set-normal}
use Rattle.demands.proofs.line_demands.LineDemands.push_set.Goals as goal

pub invariant_of-self-2 : goal.invariant_of-self-2
invariant_of-self-2 c =
    let i = c.self.inside in (
      other_sets i.range i.left_out.items i.left_out.items i.sets.items c.push.new.self.items c.self.invariant.0
          (set-normal i.left_out.items i.sets.items c.push.new.self.items c.args.versions c.in_ok-push.ensures.items
          c.self.invariant.0.normal c.ranges-2.ensures.normal),
      c.self.invariant.1,
    )

pub returns : goal.returns
returns c =
    let i = c.self.inside in
    let outs = i.left_out.items in
    let more = c.push.new.self.items in
    let old = entry_with i.others (line_versions i.range outs i.sets.items) in
    let new = entry_with i.others (line_versions i.range outs more) in
    λ clause d. subst (λ e. AddsClause clause e new) c.self.view_is
    (clause_added clause c.args.versions old new d refl refl refl
    (met-versions i.range.low i.range.high (joined_sets (line_sets outs i.sets.items))
    (joined_sets (line_sets outs more)) c.args.versions c.self.invariant.0.kept
    (set-met outs i.sets.items more c.args.versions c.in_ok-push.ensures.items c.self.invariant.0.normal
    c.ranges-2.ensures.normal)))
