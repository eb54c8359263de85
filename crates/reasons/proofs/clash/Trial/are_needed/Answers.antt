use Rattle.std.proofs.Common.{◌≡◌, [], map, rules, subst, sym}
use Rattle.std.proofs.lemmas.Result.{IfOk-weaker}
use Rattle.demands.specs.declared.verdict.Verdict.{Verdict}
use Rattle.demands.specs.declared.verdict.Verdict.TheVariants.{Nothing}
use Rattle.reasons.specs.Way.ClashSearch.{AreNeeded}
use Rattle.reasons.specs.View.{claims_at, placed_parts}
use Rattle.reasons.proofs.ApartClaims.{needed_at}
use Rattle.reasons.proofs.clash.Trial.are_needed.Goals as goal

pub returns : goal.returns
returns c =
    let name = c.args.self.now.name.now in
    let ps = map placed_parts c.args.self.now.claims.now in
    let picked = c.args.picked.now in
    let same : c.args.self.now.verdict ≡ Nothing = search rules in
    IfOk-weaker c.are_apart.result _ _ (λ b apart yes.
    subst (λ (w : Verdict). AreNeeded name w [] (claims_at ps picked)) (sym same)
    (needed_at name ps picked _ (apart yes))) c.are_apart.ensures
