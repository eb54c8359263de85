use Rattle.std.proofs.Common.{◌≡◌, true, false, refl, rules}
use Rattle.std.specs.Ordering.{is_lt}
use Rattle.pep_clause.specs.Cut.{cut_cmp}
use Rattle.pep_clause.proofs.Sweeping.{cut_first, left_turn, right_turn, swept_first}
use Rattle.pep_clause.proofs.Sweeping.{swept_right}
use Rattle.pep_clause.proofs.sweep.swept_ranges.Goals as goal

pub sweep-init : goal.sweep-init
sweep-init c =
    swept_first c.args.ranges.now c.args.other_ranges.now c.in_ok-done.done.items
    c.args.turns.now.passed c.requires.ranges c.requires.other_ranges c.in_ok-done.ensures.items

pub returns-in_default-right-clause-ok : goal.returns-in_default-right-clause-ok
returns-in_default-right-clause-ok c =
    swept_right c.args.ranges.now c.args.other_ranges.now c.sweep.done.items c.sweep.left.now
    c.sweep.right.now c.sweep.invariant.0 c.in_default-right.len_below

pub sweep-preserved-then-branch : goal.sweep-preserved-then-branch
sweep-preserved-then-branch c =
    let r = c.range-item.result in
    let s = c.other-item.result in
    let lt : is_lt (cut_cmp r.high s.high) ≡ true = search rules in
    left_turn c.args.ranges.now c.args.other_ranges.now c.sweep.done.items c.sweep.left.now
    c.sweep.right.now c.push_common.new.done.items _ _ r s c.args.turns.now.passed
    c.sweep.turns.passed c.tick.new.self.passed c.sweep.invariant
    (cut_first c.sweep.left.now r _ c.in-len1-up.len_at_least c.range-item.is refl)
    (cut_first c.sweep.right.now s _ c.in-len1-up-right.len_at_least c.other-item.is refl)
    c.in_ok-push_common.ensures.ok c.tick.ensures lt

pub sweep-preserved : goal.sweep-preserved
sweep-preserved c =
    let r = c.range-item.result in
    let s = c.other-item.result in
    let lt : is_lt (cut_cmp r.high s.high) ≡ false = search rules in
    right_turn c.args.ranges.now c.args.other_ranges.now c.sweep.done.items c.sweep.left.now
    c.sweep.right.now c.push_common.new.done.items _ _ r s c.args.turns.now.passed
    c.sweep.turns.passed c.tick.new.self.passed c.sweep.invariant
    (cut_first c.sweep.left.now r _ c.in-len1-up.len_at_least c.range-item.is refl)
    (cut_first c.sweep.right.now s _ c.in-len1-up-right.len_at_least c.other-item.is refl)
    c.in_ok-push_common.ensures.ok c.tick.ensures lt
