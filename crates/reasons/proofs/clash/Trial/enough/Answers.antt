use Rattle.std.proofs.Common.{◌∙◌, List, ℕ, ap, map, subst, sym}
use Rattle.std.proofs.lemmas.List.{length-map}
use Rattle.std.proofs.lemmas.Result.{IfOk-weaker}
use Rattle.reasons.specs.Way.ClashSearch.{AreEnough, Clashing, indices}
use Rattle.reasons.specs.View.{claims_at, placed_parts}
use Rattle.reasons.proofs.ClashSteps.{all_enough, told_enough}
use Rattle.reasons.proofs.clash.Trial.enough.Goals as goal

pub returns-then-branch : goal.returns-then-branch
returns-then-branch c =
    let name = c.args.self.now.name.now in
    let w = c.args.self.now.verdict in
    let ps = map placed_parts c.args.self.now.claims.now in
    let few = c.in_ok-few.few.items in
    record {
      within = c.in_ok-few.ensures.within;
      rising = c.in_ok-few.ensures.rising;
      enough = subst (λ (ks : List ℕ). Clashing name w (claims_at ps ks)) c.as_slice.ensures.value
          (told_enough name w (claims_at ps c.as_slice.result.now) c.in_ok-are_enough.field-0 c.if-branch.true
          c.in_ok-are_enough.ensures);
    }

pub returns : goal.returns
returns c =
    let name = c.args.self.now.name.now in
    let w = c.args.self.now.verdict in
    let claims = c.args.self.now.claims.now in
    let ps = map placed_parts claims in
    IfOk-weaker c.indices_below.result _ _ (λ all is.
    subst (AreEnough name w ps) (ap indices (length-map claims placed_parts) ∙ sym is)
    (all_enough name w ps c.requires.verdict)) c.indices_below.ensures
