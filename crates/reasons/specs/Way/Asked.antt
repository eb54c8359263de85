-- The packages that are asked about, with the claims on them that were found: the code's way.
use Rattle.std.specs.Prelude.{◌≡◌, ℕ, ◌<◌, List, [], ◌∷◌, ◌++◌, length, map, slice_index_or, Contains}
use Rattle.std.specs.Prelude.{Option, Some, None, bytes_eq, cond}
use Rattle.std.specs.List.{AllZip}
use Rattle.pep_require.specs.Requirement.{RequirementParts}
use Rattle.demands.specs.declared.verdict.Verdict.{Verdict}
use Rattle.reasons.specs.Claims.{PlacedParts, name_of, required}
use Rattle.reasons.specs.View.{placed_parts}
use Rattle.reasons.specs.declared.asked.Asked.{Asked}

-- a name, its verdict, and the claims on it so far
pub record AskedParts : Type 0 where
  pub name : List ℕ
  pub verdict : Verdict
  pub claims : List PlacedParts

abbrev pub asked_parts : Asked → AskedParts
asked_parts a =
    record { name = a.name; verdict = a.verdict; claims = map placed_parts a.claims.items }

abbrev pub asked_names : List AskedParts → List (List ℕ)
asked_names qs = map (λ q. q.name) qs

abbrev pub names_in : List Asked → List (List ℕ)
names_in asked = asked_names (map asked_parts asked)

-- the index of the name, if it is one of these
abbrev pub IsIndexOf : List (List ℕ) → List ℕ → Option ℕ → Type 0
IsIndexOf names name (Some k) = (k < length names) × (slice_index_or names k [] ≡ name)
IsIndexOf names name None = ¬ Contains names name

-- ---- more claims

abbrev pub with_claims : AskedParts → List PlacedParts → AskedParts
with_claims q ps = record { name = q.name; verdict = q.verdict; claims = q.claims ++ ps }

-- the claim, if it is on the name
abbrev pub claim_on : PlacedParts → List ℕ → List PlacedParts
claim_on p name = cond (bytes_eq (name_of p.claim) name) (p ∷ []) []

abbrev pub with_claim : PlacedParts → AskedParts → AskedParts
with_claim p q = with_claims q (claim_on p q.name)

-- the claim that was found at a place, if there is one and it is on the name
abbrev pub found_claims : ℕ → ℕ → Option RequirementParts → List ℕ → List PlacedParts
found_claims input number None name = []
found_claims input number (Some r) name =
    claim_on (record { input = input; number = number; claim = required r }) name

abbrev pub with_found : ℕ → ℕ → Option RequirementParts → AskedParts → AskedParts
with_found input number found q = with_claims q (found_claims input number found q.name)

-- just such claims on its name were added behind the others
pub record Gains (Are : List ℕ → List PlacedParts → Type 0) (old new : AskedParts) : Type 0 where
  pub own : List PlacedParts
  pub claims : Are old.name own
  pub whole : new ≡ with_claims old own

-- .. to each of them
abbrev pub AllGain : (List ℕ → List PlacedParts → Type 0) → List Asked → List Asked → Type 0
AllGain Are olds news = AllZip (Gains Are) (map asked_parts olds) (map asked_parts news)
