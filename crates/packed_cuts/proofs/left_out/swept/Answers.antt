use Rattle.std.proofs.Common.{◌++◌, ◌∙◌, rules, subst, sym}
use Rattle.pep_clause.specs.OperatorTable.{range}
use Rattle.packed_cuts.specs.Way.LeftOut.{TakesFirst, all_parts}
use Rattle.packed_cuts.proofs.SingleCuts.{all_are}
use Rattle.packed_cuts.proofs.Swept.{swept-first, swept-next, swept-whole}
use Rattle.packed_cuts.proofs.left_out.swept.Goals as goal

pub parts-init : goal.parts-init
parts-init c = (
  swept-first c.args.low (all_parts c.args.singles.items c.args.parts.items) c.in_ok-ranges.ranges.items
      (search rules) c.requires.low,
  c.requires.falling,
)

pub parts-preserved : goal.parts-preserved
parts-preserved c =
    let rest = c.take_first.new.parts.items in
    let others = c.give_back.new.list.items in
    let taken : TakesFirst c.parts.cuts.items c.parts.left.items others rest c.in-Some.part =
    subst (λ s. TakesFirst c.parts.cuts.items c.parts.left.items s rest c.in-Some.part) (sym c.give_back.ensures.same)
    c.in-Some.ensures.first in (
      swept-next c.args.low (all_parts c.args.singles.items c.args.parts.items)
          (all_parts c.parts.cuts.items c.parts.left.items) (all_parts others rest) c.parts.ranges.items
          c.push_range.new.ranges.items c.parts.from c.later-from.result c.in-Some.part c.parts.invariant.0
          taken.points taken.part taken.first c.in_ok-push_range.ensures c.later-from.ensures,
      taken.left,
    )

pub returns : goal.returns
returns c =
    c.give_back-2.ensures.same
    ∙ swept-whole c.args.low (all_parts c.args.singles.items c.args.parts.items)
    (all_parts c.parts.cuts.items c.parts.left.items) c.parts.ranges.items
    c.push_range-2.new.ranges.items c.parts.from c.requires.low
    (all_are c.args.singles.items c.args.parts.items c.requires.falling.singles_are c.requires.falling.parts_are)
    c.parts.invariant.0 (search rules)
    (c.in_ok-push_range-2.ensures ∙ (λ i. c.parts.ranges.items ++ range c.parts.from (c.end.ensures.end i)))
