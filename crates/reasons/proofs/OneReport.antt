-- The claims of inputs on a name are one list.
use Rattle.std.proofs.Common.{◌≡◌, ℕ, ◌⊎◌, List, [], ◌∷◌, refl, sym, subst, ◌∙◌, inl, inr}
use Rattle.std.specs.Prelude.{Contains}
use Rattle.pep_marker.specs.Environment.{EnvironmentParts}
use Rattle.pep_require.proofs.Members.{in_either, in_first, in_none, in_rest}
use Rattle.inputs.specs.declared.input.Input.{Input}
use Rattle.reasons.proofs.ClaimOrder.{before_itself, before_trans, first_before, rest_in_order}
use Rattle.reasons.specs.Claims.{AreInOrder, PlacedParts, StandsBefore}
use Rattle.reasons.specs.Places.{AreClaims}

same_first : (p q : PlacedParts) (ps qs : List PlacedParts) → AreInOrder (p ∷ ps) →
    AreInOrder (q ∷ qs) → (p ≡ q) ⊎ Contains ps q → (q ≡ p) ⊎ Contains qs p → p ≡ q
same_first p q ps qs o u (inl e) g = e
same_first p q ps qs o u (inr h) (inl e) = sym e
same_first p q ps qs o u (inr h) (inr g) =
    absurd (before_itself p (before_trans p q p (first_before p ps q o h) (first_before q qs p u g)))

-- another than the first is one of the others
among_others : (p q : PlacedParts) (ps qs : List PlacedParts) → p ≡ q → AreInOrder (p ∷ ps) →
    ((r : PlacedParts) → Contains (p ∷ ps) r → Contains (q ∷ qs) r) → (r : PlacedParts) →
    Contains ps r → Contains qs r
among_others p q ps qs same o f r m = elim (in_either q qs r (f r (in_rest p ps r m))) [
  | inl e ↦ absurd (before_itself r (subst (λ t. StandsBefore t r) (same ∙ e) (first_before p ps r o m)))
  | inr more ↦ more
]

-- lists in order with the same members are one
pub in_order_same : (ps qs : List PlacedParts) → AreInOrder ps → AreInOrder qs →
    ((r : PlacedParts) → Contains ps r → Contains qs r) →
    ((r : PlacedParts) → Contains qs r → Contains ps r) → ps ≡ qs
in_order_same [] [] o u f g = refl
in_order_same [] (q ∷ qs) o u f g = absurd (in_none q (g q (in_first q qs q refl)))
in_order_same (p ∷ ps) [] o u f g = absurd (in_none p (f p (in_first p ps p refl)))
in_order_same (p ∷ ps) (q ∷ qs) o u f g =
    let first : p ≡ q =
    same_first p q ps qs o u (in_either p ps q (g q (in_first q qs q refl)))
    (in_either q qs p (f p (in_first p ps p refl))) in
    let rest : ps ≡ qs =
    in_order_same ps qs (rest_in_order p ps o) (rest_in_order q qs u)
    (among_others p q ps qs first o f) (among_others q p qs ps (sym first) u g) in
    λ i. first i ∷ rest i

pub one_report : (e : EnvironmentParts) (inputs : List Input) (name : List ℕ)
    (ps qs : List PlacedParts) → AreClaims e inputs name ps → AreClaims e inputs name qs → ps ≡ qs
one_report e inputs name ps qs h g =
    in_order_same ps qs h.order g.order (λ r m. (g.members r).1 ((h.members r).0 m))
    (λ r m. (h.members r).1 ((g.members r).0 m))
