use Rattle.std.proofs.Common.{◌≡◌, ◌∙◌, length, rules, sym}
use Rattle.packed_cuts.specs.Way.LeftOut.{all_parts}
use Rattle.packed_cuts.proofs.LeftOver.{nothing_left}
use Rattle.packed_cuts.proofs.SingleCuts.{none-left, none_of}
use Rattle.packed_cuts.proofs.left_out.LeftOut.is_none.Goals as goal

pub returns-then-not-is_empty : goal.returns-then-not-is_empty
returns-then-not-is_empty c = (
  λ t. search (rules, t),
  λ e.
      let own = c.self.inside in
      let are = c.self.invariant in
      let none = none-left own.singles.items own.parts.items are.0 are.1 (c.self.view_is ∙ e) in
      let no_single : length own.singles.items ≡ 0 = none.singles in
      search (rules, no_single),
)

pub returns : goal.returns
returns c =
    let own = c.self.inside in
    let are = c.self.invariant in
    let no_single : length own.singles.items ≡ 0 = search rules in (
      λ t.
          let no_part : length own.parts.items ≡ 0 = search (rules, t) in
          sym c.self.view_is
          ∙ nothing_left (all_parts own.singles.items own.parts.items) (none_of own.singles.items own.parts.items no_single no_part),
      λ e.
          let none = none-left own.singles.items own.parts.items are.0 are.1 (c.self.view_is ∙ e) in
          let no_part : length own.parts.items ≡ 0 = none.parts in
          search (rules, no_part),
    )
