use Rattle.std.proofs.Common.{◌∙◌, ap, subst}
use Rattle.std.specs.Prelude.{IsSome}
use Rattle.std.proofs.lemmas.List.Sorted.{All-permutation}
use Rattle.pep_clause.specs.Cut.{end}
use Rattle.pep_clause.specs.Way.Joined.{joined}
use Rattle.pep_clause.specs.OperatorTable.{range}
use Rattle.pep_clause.proofs.NormalJoined.{IsNormal-range, joined_normal}
use Rattle.packed_cuts.specs.Way.LeftOut.{IsPart, all_parts, left_over, lies_between}
use Rattle.packed_cuts.proofs.LeftOver.{permuted}
use Rattle.packed_cuts.proofs.SingleCuts.{all_are, all_normal, more-rest}
use Rattle.packed_cuts.proofs.Swept.{between-high}
use Rattle.packed_cuts.proofs.left_out.LeftOut.between.Goals as goal

pub swept-requires-clause-falling : goal.swept-requires-clause-falling
swept-requires-clause-falling c = record {
  singles_fall = c.in_ok-order_singles.ensures.falling;
  parts_fall = c.sort_falling.ensures.falling;
  singles_are = c.order_singles.ensures.singles;
  parts_are = All-permutation IsPart _ _ c.sort_falling.ensures.permutation c.in_ok-parts.ensures.parts;
}

pub unreachable-requires : goal.unreachable-requires
unreachable-requires c =
    let b = c.args.cuts in
    let singles = c.order_singles.new.singles.items in
    let parts = c.sort_falling.new.parts.items in
    let are = All-permutation IsPart _ _ c.sort_falling.ensures.permutation c.in_ok-parts.ensures.parts in
    let normal = joined_normal (range b.low end) (left_over (all_parts singles parts)) c.in_ok-ranges.ranges.items
    c.in_ok-ranges.ensures (IsNormal-range b.low end c.cmp.ensures.spelled tt)
    (all_normal singles parts c.order_singles.ensures.singles are) in
    let never : ⊥ = cc (subst IsSome c.in-None.is (c.of_ranges.ensures.in_order.1 normal.increasing)) in never

pub returns : goal.returns
returns c =
    let b = c.args.cuts in
    let own = c.self.inside in
    let own_singles = own.singles.items in
    let singles = c.order_singles.new.singles.items in
    let parts = c.sort_falling.new.parts.items in
    let are = All-permutation IsPart _ _ c.sort_falling.ensures.permutation c.in_ok-parts.ensures.parts in
    c.in-Some.ensures.ranges
    ∙ between-high b.low b.high (all_parts own_singles own.parts.items) (all_parts singles parts)
    c.in_ok-ranges.ranges.items c.cmp.ensures.spelled c.cmp.ensures.other_spelled
    (all_are own.singles.items own.parts.items c.self.invariant.0 c.self.invariant.1)
    (all_are singles parts c.order_singles.ensures.singles are)
    (more-rest own_singles singles own.parts.items parts (lies_between b.high end) c.in_ok-order_singles.ensures.points
    (λ x. permuted _ parts c.sort_falling.ensures.permutation x ∙ c.in_ok-parts.ensures.points x))
    c.in_ok-ranges.ensures
    ∙ ap (joined (range b.low b.high)) c.self.view_is
