use Rattle.std.proofs.Common.{◌+◌, drop, rules, subst}
use Rattle.std.specs.Prelude.{option_map}
use Rattle.pep_clause.proofs.IncreasingRanges.{IsBehind, SoFar, one_more, range_more}
use Rattle.pep_clause.proofs.set.are_increasing.Goals as goal

pub loop-range-preserved : goal.loop-range-preserved
loop-range-preserved c =
    let ranges = c.args.ranges.now in
    let i = c.loop-range.range-index in
    let last = option_map (λ e. e.now) c.loop-range.end in
    let r = c.range-item.result in
    let s = subst (λ l. SoFar ranges last l)
    (range_more ranges i r c.loop-range-test.true c.range-item.is) c.loop-range.invariant in
    let low : IsBehind last c.low.result.now = search rules in
    let behind = subst (IsBehind last) c.low.ensures.low low in
    rw (c.high.ensures.high)
    (one_more ranges last r (drop (i + 1) ranges) s behind c.high.ensures.above
    c.low.ensures.spelled c.high.ensures.spelled)
