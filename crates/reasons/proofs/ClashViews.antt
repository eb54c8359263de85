-- What the code's claims are to the search for those that clash.
use Rattle.std.proofs.Common.{◌≡◌, ℕ, ◌+◌, ◌<◌, List, [], ◌∷◌, ◌++◌, get_or, length, map, take, sym, ap, subst, ◌∙◌}
use Rattle.std.proofs.lemmas.List.{get_or-map, length-map, map_more}
use Rattle.reasons.proofs.PickedClaims.{claim_at}
use Rattle.reasons.specs.Way.ClashSearch.{AreWithin}
use Rattle.reasons.specs.View.{claims_at, nowhere, placed_parts}
use Rattle.reasons.specs.declared.claims.PlacedClaim.{PlacedClaim}

pub at_index : (claims : List PlacedClaim) (k : ℕ) (x : PlacedClaim) → k < length claims →
    x ≡ get_or claims k x → claim_at (map placed_parts claims) k ≡ placed_parts x
at_index claims k x lt is =
    get_or-map placed_parts claims k x nowhere lt ∙ ap placed_parts (sym is)

pub next_found : (claims : List PlacedClaim) (found : List ℕ) (i : ℕ) (x : PlacedClaim) →
    i < length found → AreWithin (map placed_parts claims) found →
    x ≡ get_or claims (get_or found i 0) x →
    claims_at (map placed_parts claims) (take (i + 1) found)
    ≡ claims_at (map placed_parts claims) (take i found) ++ placed_parts x ∷ []
next_found claims found i x lt within is =
    let below : get_or found i 0 < length claims =
    subst (λ n. get_or found i 0 < n) (length-map claims placed_parts) (within i 0 lt) in
    map_more (claim_at (map placed_parts claims)) found i 0 lt
    ∙ ap (λ y. claims_at (map placed_parts claims) (take i found) ++ y ∷ [])
    (at_index claims (get_or found i 0) x below is)
