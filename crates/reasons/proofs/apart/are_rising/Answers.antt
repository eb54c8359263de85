use Rattle.std.proofs.Common.{◌+◌, ◌-◌, ◌≡◌, arith, rules}
use Rattle.reasons.proofs.PointOrder.{rises_all, rises_more}
use Rattle.reasons.proofs.apart.are_rising.Goals as goal

pub loop-index-preserved : goal.loop-index-preserved
loop-index-preserved c =
    let i = c.loop-index.index in
    let next : (i - 1) + 1 ≡ i = omega (arith, c.loop-index.auto.index) in
    rises_more c.args.points.now i (i - 1) c.index-points-index.result c.index-points-index-in-loop-index.result next
    c.loop-index-test.true c.index-points-index.is c.index-points-index-in-loop-index.is (search rules)
    c.loop-index.invariant

pub returns : goal.returns
returns c = λ yes. rises_all c.args.points.now c.loop-index.index c.loop-index-test.false c.loop-index.invariant
