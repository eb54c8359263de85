use Rattle.std.proofs.Common.{◌≡◌, [], ◌∙◌, rules, subst}
use Rattle.std.proofs.lemmas.List.Elements.{All-nil}
use Rattle.pep_clause.specs.VersionSet.{IsNormal, is_point}
use Rattle.packed_cuts.specs.Way.LeftOut.{IsPart, all_parts, left_over}
use Rattle.packed_cuts.proofs.LeftOver.{same_left}
use Rattle.packed_cuts.proofs.SingleCuts.{all_normal, same-rest}
use Rattle.packed_cuts.proofs.left_out.LeftOut.settle_parts.Goals as goal

pub returns-then-len-self-clause-normal : goal.returns-then-len-self-clause-normal
returns-then-len-self-clause-normal c =
    let own = c.self.inside in
    let are = c.self.invariant in
    subst IsNormal c.self.view_is (all_normal own.singles.items own.parts.items are.0 are.1)

pub returns-in_err-self-inside-clause-normal : goal.returns-in_err-self-inside-clause-normal
returns-in_err-self-inside-clause-normal c =
    let own = c.self.inside in
    let none : c.replace-parts.new.dest.items ≡ [] = search rules in
    all_normal own.singles.items c.replace-parts.new.dest.items c.self.invariant.0
    (rw none (All-nil IsPart))

pub returns-clause-points : goal.returns-clause-points
returns-clause-points c x =
    let singles = c.self.inside.singles.items in
    let new = c.in_ok-self-inside.field-0.items in
    same_left (all_parts singles c.replace-parts.result.items) (all_parts singles new)
    (same-rest singles c.replace-parts.result.items new c.in_ok-self-inside.ensures.points) x
    ∙ (λ i. is_point (left_over (all_parts singles (c.replace-parts.ensures.value i).items)) x)
    ∙ (λ i. is_point (c.self.view_is i) x)

pub returns-clause-normal : goal.returns-clause-normal
returns-clause-normal c =
    let own = c.self.inside in
    all_normal own.singles.items c.in_ok-self-inside.field-0.items c.self.invariant.0
    c.in_ok-self-inside.ensures.parts
