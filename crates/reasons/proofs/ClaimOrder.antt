-- Claims in order.
use Rattle.std.proofs.Common.{◌<◌, List, [], ◌∷◌, ◌++◌, refl, sym, subst, ◌∙◌, inl, inr, arith}
use Rattle.std.specs.Prelude.{Contains}
use Rattle.pep_require.proofs.Members.{in_either, in_first, in_none, in_rest}
use Rattle.reasons.specs.Claims.{AreInOrder, PlacedParts, StandsBefore}

pub before_trans : (p q r : PlacedParts) → StandsBefore p q → StandsBefore q r → StandsBefore p r
before_trans p q r (inl h) (inl g) = inl (omega (arith, h, g))
before_trans p q r (inl h) (inr g) = inl (subst (λ n. p.input < n) g.0 h)
before_trans p q r (inr h) (inl g) = inl (subst (λ n. n < r.input) (sym h.0) g)
before_trans p q r (inr h) (inr g) = inr (h.0 ∙ g.0, omega (arith, h.1, g.1))

pub before_itself : (p : PlacedParts) → StandsBefore p p → ⊥
before_itself p (inl h) = omega (arith, h)
before_itself p (inr h) = omega (arith, h.1)

pub rest_in_order : (p : PlacedParts) (ps : List PlacedParts) → AreInOrder (p ∷ ps) → AreInOrder ps
rest_in_order p [] o = tt
rest_in_order p (q ∷ ps) o = o.1

-- the first stands before each of the others
pub first_before : (p : PlacedParts) (ps : List PlacedParts) (q : PlacedParts) → AreInOrder (p ∷ ps) →
    Contains ps q → StandsBefore p q
first_before p [] q o m = absurd (in_none q m)
first_before p (r ∷ ps) q o m = elim (in_either r ps q m) [
  | inl same ↦ subst (StandsBefore p) same o.0
  | inr more ↦ before_trans p r q o.0 (first_before r ps q o.1 more)
]

-- behind a list in order another one, of which each stands behind all of the first
pub order_append : (ps qs : List PlacedParts) → AreInOrder ps → AreInOrder qs →
    ((p q : PlacedParts) → Contains ps p → Contains qs q → StandsBefore p q) →
    AreInOrder (ps ++ qs)
order_append [] qs o u f = u
order_append (p ∷ []) [] o u f = tt
order_append (p ∷ []) (q ∷ qs) o u f =
    (f p q (in_first p [] p refl) (in_first q qs q refl), u)
order_append (p ∷ r ∷ ps) qs o u f =
    (o.0, order_append (r ∷ ps) qs o.1 u (λ x y m n. f x y (in_rest p (r ∷ ps) x m) n))
