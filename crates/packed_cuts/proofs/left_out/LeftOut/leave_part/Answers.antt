use Rattle.std.proofs.Common.{◌&&◌, ◌∙◌}
use Rattle.std.proofs.lemmas.List.Elements.{All-push}
use Rattle.pep_clause.specs.OperatorTable.{outside}
use Rattle.pep_clause.specs.VersionSet.{is_point}
use Rattle.packed_cuts.specs.Way.LeftOut.{IsPart, all_parts}
use Rattle.packed_cuts.proofs.LeftOver.{points-behind}
use Rattle.packed_cuts.proofs.SingleCuts.{all_normal, left-part}
use Rattle.packed_cuts.proofs.left_out.LeftOut.leave_part.Goals as goal

pub invariant_of-self-2 : goal.invariant_of-self-2
invariant_of-self-2 c = (
  c.self.invariant.0,
  rw c.in_ok-push.ensures.items (All-push IsPart c.self.inside.parts.items c.args.part c.self.invariant.1 c.requires),
)

pub returns-clause-points : goal.returns-clause-points
returns-clause-points c x =
    let b = c.args.part in
    let own = c.self.inside in
    let singles = own.singles.items in
    let new = c.push.new.self.items in
    points-behind (all_parts singles own.parts.items) (all_parts singles new) b
    (left-part singles own.parts.items new b c.in_ok-push.ensures.items) x
    ∙ (λ i. is_point (c.self.view_is i) x && is_point (outside b.low b.high) x)
    ∙ (λ i. c.in_ok-settle_parts.ensures.points x i && is_point (outside b.low b.high) x)

pub returns-clause-normal : goal.returns-clause-normal
returns-clause-normal c =
    let own = c.self.inside in
    let are = invariant_of-self-2 c in
    all_normal own.singles.items c.push.new.self.items are.0 are.1
