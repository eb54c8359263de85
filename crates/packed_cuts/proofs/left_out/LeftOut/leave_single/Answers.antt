use Rattle.std.proofs.Common.{◌&&◌, ◌∙◌}
use Rattle.std.proofs.lemmas.List.Elements.{All-push}
use Rattle.pep_clause.specs.OperatorTable.{outside}
use Rattle.pep_clause.specs.VersionSet.{is_point}
use Rattle.packed_cuts.specs.Way.LeftOut.{IsSingle, all_parts, single}
use Rattle.pep_clause.specs.PackedCut.{right_behind}
use Rattle.packed_cuts.proofs.LeftOver.{points-behind}
use Rattle.packed_cuts.proofs.SingleCuts.{all_normal, left-single}
use Rattle.packed_cuts.proofs.left_out.LeftOut.leave_single.Goals as goal

pub invariant_of-self-2 : goal.invariant_of-self-2
invariant_of-self-2 c = (
  rw c.in_ok-push.ensures.items (All-push IsSingle c.self.inside.singles.items c.args.cut c.self.invariant.0 c.requires),
  c.self.invariant.1,
)

pub returns-clause-points : goal.returns-clause-points
returns-clause-points c x =
    let cut = c.args.cut in
    let own = c.self.inside in
    let new = c.push.new.self.items in
    points-behind (all_parts own.singles.items own.parts.items) (all_parts new own.parts.items) (single cut)
    (left-single own.singles.items new own.parts.items cut c.in_ok-push.ensures.items) x
    ∙ (λ i. is_point (c.self.view_is i) x && is_point (outside cut (right_behind cut)) x)
    ∙ (λ i. c.in_ok-settle_singles.ensures.points x i && is_point (outside cut (right_behind cut)) x)

pub returns-clause-normal : goal.returns-clause-normal
returns-clause-normal c =
    let are = invariant_of-self-2 c in
    all_normal c.push.new.self.items c.self.inside.parts.items are.0 are.1
