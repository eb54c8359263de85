use Rattle.std.proofs.Common.{◌≡◌, rules, sym}
use Rattle.pep_clause.specs.Cut.{end, least}
use Rattle.packed_cuts.proofs.OutsideRanges.{outside_is}
use Rattle.packed_cuts.proofs.packed_set.left_out.Goals as goal

pub returns-then-eq-2 : goal.returns-then-eq-2
returns-then-eq-2 c =
    let first = c.args.first.now in
    let second = c.args.second.now in
    let begins : first.low ≡ least = search rules in
    let ends : second.high ≡ end = search rules in
    outside_is first second begins ends c.high-then-eq-2.ensures.above c.high.ensures.above c.between.result
    (rw (sym c.high-then-eq-2.ensures.high) c.between.ensures.low)
    (rw (sym c.low-then-eq-2.ensures.low) c.between.ensures.high)
