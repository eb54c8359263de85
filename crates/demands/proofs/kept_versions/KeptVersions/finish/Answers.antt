use Rattle.std.proofs.Common.{◌≡◌, ◌∙◌, Some, ap, rules, subst, sym}
use Rattle.std.proofs.lemmas.Result.{IfOk-weaker}
use Rattle.std.specs.Prelude.{option_map}
use Rattle.pep_clause.specs.Cut.{end, least}
use Rattle.pep_clause.specs.VersionSet.{all_versions}
use Rattle.demands.specs.Way.KeptVersions.{AreNormalParts, beside_versions}
use Rattle.demands.specs.Way.PartialJoins.{joined_sets, kept_versions}
use Rattle.demands.proofs.KeptVersions.{kept-bare, kept-both, kept-unbounded}
use Rattle.demands.proofs.PartialJoins.{normal_sets}
use Rattle.demands.proofs.kept_versions.KeptVersions.finish.Goals.{After-into_inner-left_out}
use Rattle.demands.proofs.kept_versions.KeptVersions.finish.Goals as goal

pub returns-in_default : goal.returns-in_default
returns-in_default c =
    let i = c.self.inside in
    let b = i.range in
    c.set_between.ensures
    ∙ kept-bare b.low b.high c.self.invariant.0 c.self.invariant.1
    ∙ (λ j. kept_versions b.low b.high (beside_versions (option_map (λ b. b.value) (sym c.in_default.is j))))
    ∙ c.self.view_is

-- what was in the box
unboxed : (c : After-into_inner-left_out) →
    option_map (λ b. b.value) c.self.inside.beside ≡ Some c.into_inner-left_out.result
unboxed c = ap (option_map (λ b. b.value)) c.in-Some.is ∙ ap Some (sym c.into_inner-left_out.ensures)

normal : (c : After-into_inner-left_out) → AreNormalParts (Some c.into_inner-left_out.result)
normal c = subst AreNormalParts (unboxed c) c.self.invariant.2

whole : (c : After-into_inner-left_out) → kept_versions c.self.inside.range.low c.self.inside.range.high
    (beside_versions (Some c.into_inner-left_out.result)) ≡ c.args.self
whole c =
    let i = c.self.inside in
    ap (λ b. kept_versions i.range.low i.range.high (beside_versions b)) (sym (unboxed c)) ∙ c.self.view_is

pub returns-then-is_all : goal.returns-then-is_all
returns-then-is_all c =
    let i = c.self.inside in
    let b = c.into_inner-left_out.result in
    let here = (goal.at.returns-then-is_all c).After-into_inner-left_out in
    let low : i.range.low ≡ least = search rules in
    let high : i.range.high ≡ end = search rules in
    let all : b.left_out ≡ all_versions = search rules in
    IfOk-weaker c.joined_of.result _ _ (λ s is.
    is ∙ kept-unbounded i.range.low i.range.high b.left_out (joined_sets b.sets.items) low high all
    (normal_sets b.sets.items (normal here).1) ∙ whole here) c.joined_of.ensures

pub returns : goal.returns
returns c =
    let i = c.self.inside in
    let b = c.into_inner-left_out.result in
    let here = (goal.at.returns c).After-into_inner-left_out in
    IfOk-weaker c.joined_with.result _ _ (λ s is.
    kept-both i.range.low i.range.high b.left_out (joined_sets b.sets.items) c.in_ok-left.left s c.self.invariant.0
    c.self.invariant.1 (normal here).0 (normal_sets b.sets.items (normal here).1) c.in_ok-left.ensures is
    ∙ whole here) c.joined_with.ensures
