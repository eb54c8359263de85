-- Rising lists of texts: those with the same members are equal.
use Rattle.std.proofs.Common.{◌≡◌, ◌<◌, ℕ, zero, suc, List, [], ◌∷◌, length, sym, ap, subst, ◌∙◌}
use Rattle.std.proofs.Common.{refl, inl, inr, ◌⊎◌, arith}
use Rattle.std.specs.Prelude.{Contains, slice_index_or}
use Rattle.std.specs.Cmp.Lexicographic.{slice_cmp, nat_list_cmp_total}
use Rattle.std.specs.Ordering.{nat_cmp, ordering_reverse}
use Rattle.std.specs.declared.cmp.Ordering.TheVariants.{Less, Greater}
use Rattle.pep_require.specs.Requirement.{IsAscending}

-- the text is in the list, by recursion
abbrev pub IsIn : List (List ℕ) → List ℕ → Type 0
IsIn [] x = ⊥
IsIn (y ∷ ys) x = (x ≡ y) ⊎ IsIn ys x

in_at : (xs : List (List ℕ)) (x : List ℕ) (k : ℕ) → k < length xs → slice_index_or xs k x ≡ x →
    IsIn xs x
in_at [] x k h e = absurd (omega arith)
in_at (y ∷ ys) x zero h e = inl (sym e)
in_at (y ∷ ys) x (suc k) h e = inr (in_at ys x k (omega arith) e)

pub IsIn-from_Contains : (xs : List (List ℕ)) (x : List ℕ) → Contains xs x → IsIn xs x
IsIn-from_Contains xs x h = in_at xs x h.0 h.1 h.2

pub Contains-from_IsIn : (xs : List (List ℕ)) (x : List ℕ) → IsIn xs x → Contains xs x
Contains-from_IsIn [] x h = absurd h
Contains-from_IsIn (y ∷ ys) x (inl e) = (0, omega arith, sym e)
Contains-from_IsIn (y ∷ ys) x (inr h) =
    let rest = Contains-from_IsIn ys x h in (suc rest.0, omega (arith, rest.1), rest.2)

-- no text is below itself, and of two only one is below the other
pub irreflexive : (x : List ℕ) → slice_cmp nat_cmp x x ≡ Less → ⊥
irreflexive x h =
    let back : Less ≡ Greater = sym h ∙ nat_list_cmp_total.antisymm x x ∙ ap ordering_reverse h in
    cc back

asymmetric : (x y : List ℕ) → slice_cmp nat_cmp x y ≡ Less → slice_cmp nat_cmp y x ≡ Less → ⊥
asymmetric x y h g = irreflexive x (nat_list_cmp_total.trans x y x h g)

-- the first of rising texts is below all others
pub first_below : (x : List ℕ) (xs : List (List ℕ)) (y : List ℕ) → IsAscending (x ∷ xs) →
    IsIn xs y → slice_cmp nat_cmp x y ≡ Less
first_below x [] y up h = absurd h
first_below x (z ∷ zs) y up (inl e) = subst (λ t. slice_cmp nat_cmp x t ≡ Less) (sym e) up.0
first_below x (z ∷ zs) y up (inr h) =
    nat_list_cmp_total.trans x z y up.0 (first_below z zs y up.1 h)

pub rest_ascends : (x : List ℕ) (xs : List (List ℕ)) → IsAscending (x ∷ xs) → IsAscending xs
rest_ascends x [] up = tt
rest_ascends x (y ∷ ys) up = up.1

-- rising lists with the same members are equal
same_first : (x y : List ℕ) (xs ys : List (List ℕ)) → IsAscending (x ∷ xs) → IsAscending (y ∷ ys) →
    IsIn (y ∷ ys) x → IsIn (x ∷ xs) y → x ≡ y
same_first x y xs ys up more (inl e) h = e
same_first x y xs ys up more (inr g) (inl e) = sym e
same_first x y xs ys up more (inr g) (inr h) =
    absurd (asymmetric x y (first_below x xs y up h) (first_below y ys x more g))

later : (x y z : List ℕ) (xs ys : List (List ℕ)) → x ≡ y → slice_cmp nat_cmp x z ≡ Less →
    IsIn (y ∷ ys) z → IsIn ys z
later x y z xs ys e h (inl f) =
    absurd (irreflexive x (subst (λ t. slice_cmp nat_cmp x t ≡ Less) (f ∙ sym e) h))
later x y z xs ys e h (inr g) = g

pub ascending_same : (xs ys : List (List ℕ)) → IsAscending xs → IsAscending ys →
    ((x : List ℕ) → IsIn xs x → IsIn ys x) → ((x : List ℕ) → IsIn ys x → IsIn xs x) → xs ≡ ys
ascending_same [] [] up more f g = refl
ascending_same [] (y ∷ ys) up more f g = absurd (g y (inl refl))
ascending_same (x ∷ xs) [] up more f g = absurd (f x (inl refl))
ascending_same (x ∷ xs) (y ∷ ys) up more f g =
    let e = same_first x y xs ys up more (f x (inl refl)) (g y (inl refl)) in
    let rest = ascending_same xs ys (rest_ascends x xs up) (rest_ascends y ys more)
    (λ z h. later x y z xs ys e (first_below x xs z up h) (f z (inr h)))
    (λ z h. later y x z ys xs (sym e) (first_below y ys z more h) (g z (inr h))) in
    λ i. e i ∷ rest i
