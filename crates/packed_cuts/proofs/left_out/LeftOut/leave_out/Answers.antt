use Rattle.std.proofs.Common.{◌&&◌, ◌∙◌, refl, rules, subst, sym}
use Rattle.std.proofs.lemmas.Result.{on_ok_weaker}
use Rattle.std.specs.Prelude.{◌≢◌}
use Rattle.std.specs.declared.cmp.Ordering.TheVariants.{Less}
use Rattle.pep_clause.specs.Cut.{cut_cmp}
use Rattle.pep_clause.specs.OperatorTable.{outside}
use Rattle.pep_clause.specs.VersionSet.{IsNormal, is_point}
use Rattle.packed_cuts.proofs.LeftOver.{not_below, points-none}
use Rattle.packed_cuts.proofs.SingleCuts.{all_normal}
use Rattle.packed_cuts.proofs.left_out.LeftOut.leave_out.Goals as goal

pub returns-then-ne-clause-points : goal.returns-then-ne-clause-points
returns-then-ne-clause-points c =
    let b = c.args.cuts in
    let other : cut_cmp b.low b.high ≢ Less = search rules in
    points-none c.args.self.now b (not_below b.low b.high other)

pub returns-then-ne-clause-normal : goal.returns-then-ne-clause-normal
returns-then-ne-clause-normal c =
    let own = c.self.inside in
    let are = c.self.invariant in
    subst IsNormal c.self.view_is (all_normal own.singles.items own.parts.items are.0 are.1)

pub returns-then-is_right_behind-clause-points : goal.returns-then-is_right_behind-clause-points
returns-then-is_right_behind-clause-points c =
    let b = c.args.cuts in
    on_ok_weaker c.leave_single.result
    (λ k x. k x
    ∙ (λ i. is_point c.args.self.now x && is_point (outside b.low (sym (c.if-is_right_behind.ensures.exactly.0 refl).0 i)) x))
    c.leave_single.ensures.points
