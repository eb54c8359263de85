use Rattle.std.proofs.Common.{◌∙◌, subst}
use Rattle.pep_clause.specs.VersionSet.{IsNormal, is_point}
use Rattle.packed_cuts.specs.Way.LeftOut.{all_parts}
use Rattle.packed_cuts.proofs.LeftOver.{same_left}
use Rattle.packed_cuts.proofs.SingleCuts.{all_normal, same-singles}
use Rattle.packed_cuts.proofs.left_out.LeftOut.settle_singles.Goals as goal

pub returns-then-len-saturating_add-clause-normal : goal.returns-then-len-saturating_add-clause-normal
returns-then-len-saturating_add-clause-normal c =
    let own = c.self.inside in
    let are = c.self.invariant in
    subst IsNormal c.self.view_is (all_normal own.singles.items own.parts.items are.0 are.1)

pub returns-in_err-order_singles-clause-normal : goal.returns-in_err-order_singles-clause-normal
returns-in_err-order_singles-clause-normal c =
    all_normal c.order_singles.new.singles.items c.self.inside.parts.items c.order_singles.ensures.singles c.self.invariant.1

pub returns-clause-points : goal.returns-clause-points
returns-clause-points c x =
    let own = c.self.inside in
    let new = c.order_singles.new.singles.items in
    same_left (all_parts own.singles.items own.parts.items) (all_parts new own.parts.items)
    (same-singles own.singles.items new own.parts.items c.order_singles.ensures.points) x
    ∙ (λ i. is_point (c.self.view_is i) x)

pub returns-clause-normal : goal.returns-clause-normal
returns-clause-normal c =
    all_normal c.order_singles.new.singles.items c.self.inside.parts.items c.order_singles.ensures.singles c.self.invariant.1
