use Rattle.std.proofs.Common.{List, map, refl, subst, sym}
use Rattle.demands.specs.Verdict.{IsVerdict}
use Rattle.reasons.specs.Claims.{Claimed}
use Rattle.reasons.specs.Clash.{IsPartThatClashes}
use Rattle.reasons.specs.View.{claims_at, placed_parts}
use Rattle.reasons.specs.declared.claims.PlacedClaim.{PlacedClaim}
use Rattle.reasons.proofs.telling.reason_of.Goals as goal

pub clash_of-requires-clause-verdict : goal.clash_of-requires-clause-verdict
clash_of-requires-clause-verdict c =
    let n = c.args.asked.name in
    let w = c.args.asked.verdict in
    subst (λ (xs : List PlacedClaim). IsVerdict (Claimed (map placed_parts xs) n) w)
    (sym c.as_slice.ensures.value) c.requires.verdict

pub returns : goal.returns
returns c =
    let n = c.args.asked.name in
    let w = c.args.asked.verdict in
    record {
      name_is = refl;
      verdict_is = refl;
      claims_are = refl;
      part = subst (λ (xs : List PlacedClaim). IsPartThatClashes n w (map placed_parts xs)
          (claims_at (map placed_parts xs) c.in_ok-clash.clash.items)) c.as_slice.ensures.value
          c.in_ok-clash.ensures;
    }
