-- Lists, and whether they are empty.
use Rattle.std.proofs.Common.{◌≡◌, ℕ, ◌-◌, ◌+◌, ◌≤◌, ◌==◌, List, [], ◌∷◌, ◌++◌, length, take}
use Rattle.std.proofs.Common.{ap, drop, get_or, length-drop, refl, subst, sym, ◌∙◌, arith, true}
use Rattle.std.specs.List.Sorted.{IsPermutation}
use Rattle.std.proofs.Math.Seq.{take-append_seam}
use Rattle.std.proofs.lemmas.Bool.{eqb-true}
use Rattle.std.proofs.lemmas.List.{take_all, take_more}
use Rattle.std.proofs.lemmas.List.Sorted.{IsPermutation-trans, length_permutation}
use Rattle.texts.specs.Lists.{is_empty}

-- `is_empty` as code tests it
pub is_empty-length : {A : Type 0} (xs : List A) → is_empty xs ≡ (length xs == 0)
is_empty-length [] = refl
is_empty-length (x ∷ xs) = grind arith

-- a list without elements
pub nothing_in : {A : Type 0} (xs : List A) → (length xs == 0) ≡ true → xs ≡ []
nothing_in [] e = refl
nothing_in (x ∷ xs) e = absurd (omega (arith, eqb-true (length (x ∷ xs)) 0 e))

-- a list that is not empty is all but its last element, and that element
pub last-shape : (xs : List ℕ) → 1 ≤ length xs → xs ≡ take (length xs - 1) xs
    ++ get_or xs (length xs - 1) 0 ∷ []
last-shape xs some =
    let i : length xs - 1 + 1 ≡ length xs = omega arith in
    let whole : take (length xs) xs ≡ xs = take_all (length xs) xs (omega arith) in
    let more : take (length xs - 1 + 1) xs ≡ take (length xs - 1) xs
    ++ get_or xs (length xs - 1) 0 ∷ [] = take_more xs (length xs - 1) 0 (omega arith) in
    sym whole ∙ rw i at more

-- a slice that goes to the end is what stands behind its beginning
pub to-end : (xs : List ℕ) (i : ℕ) → take (length xs - i) (drop i xs) ≡ drop i xs
to-end xs i = take_all (length xs - i) (drop i xs) (omega (arith, length-drop i xs))

-- ---- lists that are lent

-- a list that is lent as a slice, and comes back in another order, with what stood behind it
pub lent_whole : {X : Type 0} (old lent part rest new : List X) (n : ℕ) → lent ≡ old → length lent ≡ n →
    IsPermutation lent part → IsPermutation (take n (part ++ rest)) new → IsPermutation old new
lent_whole old lent part rest new n same count p q =
    let whole : n ≡ length part = sym count ∙ sym (length_permutation lent part p) in
    let back : take n (part ++ rest) ≡ part = ap (λ k. take k (part ++ rest)) whole ∙ take-append_seam part rest in
    subst (λ all. IsPermutation all new) same
    (IsPermutation-trans lent part new p (subst (λ all. IsPermutation all new) back q))
