use Rattle.std.proofs.Common.{◌≡◌, false, rules, subst}
use Rattle.std.specs.Prelude.{All}
use Rattle.std.specs.Ordering.{is_lt}
use Rattle.pep_clause.specs.Cut.{cut_cmp}
use Rattle.packed_cuts.specs.Way.LeftOut.{TakesFirst}
use Rattle.packed_cuts.proofs.SingleCuts.{popped_is_single, take-single, taken-part}
use Rattle.packed_cuts.proofs.left_out.take_first.Goals as goal

pub returns-then-part_is_first-clause-first : goal.returns-then-part_is_first-clause-first
returns-then-part_is_first-clause-first c =
    taken-part c.args.singles.now.items c.args.parts.now.items c.pop.new.self.items c.pop.result c.requires c.pop.ensures.items
    (search rules)

pub right_behind-high-requires : goal.right_behind-high-requires
right_behind-high-requires c =
    (popped_is_single c.args.singles.now.items c.pop-2.new.self.items c.args.parts.now.items c.in_ok-low.low c.requires
    c.in_ok-low.ensures.items).behind

pub returns-clause-first : goal.returns-clause-first
returns-clause-first c =
    let own = c.args.singles.now.items in
    let parts = c.args.parts.now.items in
    subst (λ high. TakesFirst own parts c.pop-2.new.self.items parts (record { low = c.in_ok-low.low; high = high }))
    (search rules)
    (take-single own c.pop-2.new.self.items parts c.in_ok-low.low c.requires c.in_ok-low.ensures.items
    (subst (λ bs. All (λ b. is_lt (cut_cmp b.low c.in_ok-low.low) ≡ false) bs) c.as_slice-2.ensures.value
    (c.part_is_first.ensures.single (search rules) c.in_ok-low.low c.pop-2.new.self.items (search rules))))
