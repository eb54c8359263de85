use Rattle.std.proofs.Common.{◌≡◌, ◌∷◌, true, false, arith, length, rules, subst, sym, ◌∙◌}
use Rattle.std.specs.Ordering.{is_lt}
use Rattle.std.specs.Vec.Iter.{into_iter_items, into_iter_len}
use Rattle.pep_clause.specs.Cut.{cut_cmp}
use Rattle.pep_clause.proofs.MovedSweep.{first_moves, left_moves, next_left, none_moves, right_moves}
use Rattle.pep_clause.proofs.Sweeping.{IsSwept, swept_left, swept_right}
use Rattle.pep_clause.proofs.sweep.moved_ranges.Goals as goal
use Rattle.pep_clause.proofs.sweep.moved_ranges.Goals.{In_ok-push_first, In_ok-push_first-2}

pub returns-in_default-next : goal.returns-in_default-next
returns-in_default-next c =
    none_moves c.args.ranges.items c.args.other_ranges.items c.in_ok-done.done.items
    c.in_ok-done.ensures.items (search rules)

pub sweep-init : goal.sweep-init
sweep-init c =
    let left : into_iter_len c.into_iter-left.result ≡ length (into_iter_items c.into_iter-left.result) = search rules in
    let right : into_iter_len c.into_iter-right.result ≡ length (into_iter_items c.into_iter-right.result) = search rules in (
      first_moves c.args.ranges.items c.args.other_ranges.items c.in_ok-done.done.items _ _
          c.requires.ranges c.requires.other_ranges c.in_ok-done.ensures.items
          (sym c.into_iter-left.ensures.rest ∙ c.in-Some.ensures.items)
          (sym c.into_iter-right.ensures.rest ∙ c.in-Some-next.ensures.items),
      next_left _ _ _ _ _ left c.in-Some.ensures.items c.in-Some.ensures.len,
      next_left _ _ _ _ _ right c.in-Some-next.ensures.items c.in-Some-next.ensures.len,
    )

-- the turn that passes the left range
passes_left : (c : In_ok-push_first) → IsSwept c.args.ranges.items c.args.other_ranges.items
    c.push_first.new.done.items (into_iter_items c.sweep.left)
    (c.push_first.new.other ∷ into_iter_items c.sweep.right)
passes_left c =
    let r = c.sweep.range in
    let s = c.sweep.other in
    let lt : is_lt (cut_cmp r.high s.high) ≡ true = search rules in
    left_moves c.args.ranges.items c.args.other_ranges.items c.sweep.done.items
    c.push_first.new.done.items _ _ r s c.push_first.new.other c.sweep.invariant.0 lt
    c.push_first.ensures.left c.push_first.ensures.above c.in_ok-push_first.ensures.both

-- the turn that passes the right range
passes_right : (c : In_ok-push_first-2) → IsSwept c.args.ranges.items c.args.other_ranges.items
    c.push_first-else-lt.new.done.items (c.push_first-else-lt.new.other ∷ into_iter_items c.sweep.left)
    (into_iter_items c.sweep.right)
passes_right c =
    let r = c.sweep.range in
    let s = c.sweep.other in
    let lt : is_lt (cut_cmp r.high s.high) ≡ false = search rules in
    right_moves c.args.ranges.items c.args.other_ranges.items c.sweep.done.items
    c.push_first-else-lt.new.done.items _ _ r s c.push_first-else-lt.new.other c.sweep.invariant.0 lt
    c.push_first-else-lt.ensures.spelled c.push_first-else-lt.ensures.left
    c.push_first-else-lt.ensures.above c.in_ok-push_first-2.ensures.both

pub returns-in_default-next-2 : goal.returns-in_default-next-2
returns-in_default-next-2 c =
    let none : 0 ≡ into_iter_len c.sweep.left = search rules in
    let few = c.sweep.invariant.1 in
    swept_left c.args.ranges.items c.args.other_ranges.items c.push_first.new.done.items _ _
    (passes_left (goal.at.returns-in_default-next-2 c).In_ok-push_first)
    (omega (arith, none, few))

pub sweep-preserved-then-lt : goal.sweep-preserved-then-lt
sweep-preserved-then-lt c = (
  subst (λ x. IsSwept c.args.ranges.items c.args.other_ranges.items c.push_first.new.done.items x
      (c.push_first.new.other ∷ into_iter_items c.sweep.right)) c.in-Some-next-2.ensures.items
      (passes_left (goal.at.sweep-preserved-then-lt c).In_ok-push_first),
  next_left _ _ _ _ _ c.sweep.invariant.1 c.in-Some-next-2.ensures.items
      c.in-Some-next-2.ensures.len,
  c.sweep.invariant.2,
)

pub returns-in_default-next-3 : goal.returns-in_default-next-3
returns-in_default-next-3 c =
    let none : 0 ≡ into_iter_len c.sweep.right = search rules in
    let few = c.sweep.invariant.2 in
    swept_right c.args.ranges.items c.args.other_ranges.items c.push_first-else-lt.new.done.items _ _
    (passes_right (goal.at.returns-in_default-next-3 c).In_ok-push_first-2)
    (omega (arith, none, few))

pub sweep-preserved : goal.sweep-preserved
sweep-preserved c = (
  subst (λ y. IsSwept c.args.ranges.items c.args.other_ranges.items c.push_first-else-lt.new.done.items
      (c.push_first-else-lt.new.other ∷ into_iter_items c.sweep.left) y)
      c.in-Some-next-3.ensures.items
      (passes_right (goal.at.sweep-preserved c).In_ok-push_first-2),
  c.sweep.invariant.1,
  next_left _ _ _ _ _ c.sweep.invariant.2 c.in-Some-next-3.ensures.items
      c.in-Some-next-3.ensures.len,
)
