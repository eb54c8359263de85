-- What the code's types stand for.
use Rattle.std.specs.Prelude.{ℕ, List, [], map, slice_index_or}
use Rattle.pep_require.specs.View.{requirement_parts}
use Rattle.reasons.specs.Claims.{ClaimParts, PlacedParts, entered, required}
use Rattle.reasons.specs.Clash.{ReasonParts}
use Rattle.reasons.specs.declared.claims.Claim.{Claim}
use Rattle.reasons.specs.declared.claims.Claim.TheVariants as claims
use Rattle.reasons.specs.declared.claims.PlacedClaim.{PlacedClaim}
use Rattle.reasons.specs.declared.claims.Reason.{Reason}

abbrev pub claim_parts : Claim → ClaimParts
claim_parts (claims.Required r) = required (requirement_parts r)
claim_parts (claims.Entered name e) = entered name e

abbrev pub placed_parts : PlacedClaim → PlacedParts
placed_parts p = record { input = p.input; number = p.number; claim = claim_parts p.claim }

abbrev pub nowhere : PlacedParts
nowhere = record {
  input = 0;
  number = 0;
  claim = entered [] (record { extras = []; urls = []; texts = []; versions = [] });
}

-- the claims at some indices of a list; of one beyond its end, one that stands nowhere
abbrev pub claims_at : List PlacedParts → List ℕ → List PlacedParts
claims_at ps ks = map (λ k. slice_index_or ps k nowhere) ks

abbrev pub reason_parts : Reason → ReasonParts
reason_parts r = record {
  name = r.name;
  verdict = r.verdict;
  claims = map placed_parts r.claims.items;
  clash = claims_at (map placed_parts r.claims.items) r.clash.items;
}
