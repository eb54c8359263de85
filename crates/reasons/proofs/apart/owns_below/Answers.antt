use Rattle.std.proofs.Common.{rules}
use Rattle.reasons.proofs.PointOrder.{none_below}
use Rattle.reasons.proofs.apart.owns_below.Goals as goal

pub returns-then-ge : goal.returns-then-ge
returns-then-ge c = λ yes.
    none_below c.args.points.now c.args.cut.now c.args.from c.loop-index.index c.args.own
    c.index-points-index.result c.requires.rising c.loop-index-test.true c.index-points-index.is
    (search rules) c.loop-index.invariant
