use Rattle.std.proofs.Common.{map, subst}
use Rattle.std.proofs.lemmas.Result.{on_ok_weaker}
use Rattle.pep_clause.specs.OperatorTable.{range}
use Rattle.demands.specs.Join.{IsIntersection}
use Rattle.demands.specs.Way.LineSets.{left_by}
use Rattle.demands.specs.Way.PartialJoins.{joined_sets}
use Rattle.demands.specs.Table.{EntryParts}
use Rattle.demands.proofs.LineSets.{fewer_sets, meets_line}
use Rattle.demands.proofs.kept_versions.KeptVersions.meet_line.Goals as goal

pub returns : goal.returns
returns c =
    let i = c.line.inside in
    let mid = c.leave_out_all.new.self in
    let new = c.meet_all.new.self in
    let left = subst (λ outs. IsIntersection c.narrow_to.new.self (joined_sets (map left_by outs)) mid)
    c.as_slice.ensures.value c.in_ok-leave_out_all.ensures in
    on_ok_weaker c.meet_all.result
    (λ k. subst (λ (e : EntryParts). IsIntersection c.args.self.now e.versions new) c.line.view_is
    (meets_line c.args.self.now c.narrow_to.new.self mid new (range i.range.low i.range.high)
    i.left_out.items i.sets.items c.narrow_to.ensures left k)) c.meet_all.ensures.ok

pub invariant_of-line : goal.invariant_of-line
invariant_of-line c =
    let i = c.line.inside in
    let moved = c.meet_all.ensures.fewer in (
      fewer_sets i.range i.left_out.items i.sets.items c.meet_all.new.sets.items moved.0 moved.1 c.line.invariant.0,
      c.line.invariant.1,
    )
