use Rattle.std.proofs.Common.{rules, subst}
use Rattle.reasons.specs.Way.Apart.{AreBelow, OwnsBelow}
use Rattle.pep_clause.specs.Cut.{Cut}
use Rattle.reasons.proofs.PointOrder.{others_more}
use Rattle.reasons.proofs.apart.has_others.Goals as goal

pub loop-range-preserved : goal.loop-range-preserved
loop-range-preserved c =
    let points = c.args.points.now in
    others_more c.args.ranges.now points c.args.own c.loop-range.from c.count_below-from.result
    c.loop-range.range-index c.range-item.result c.loop-range-test.true c.range-item.is c.loop-range.invariant
    (subst (λ (x : Cut). OwnsBelow points c.loop-range.from x c.args.own) c.low.ensures.low (search rules))
    (subst (λ (x : Cut). AreBelow points c.count_below-from.result x) c.high.ensures.high
    c.count_below-from.ensures.below)
    c.count_below-from.ensures.within
