-- What is in a list, and where; and tests that pass for each item.
use Rattle.std.proofs.Common.{◌≡◌, ℕ, zero, suc, ◌+◌, ◌<◌, ◌⊎◌, Bool, true, List, [], ◌∷◌, ◌++◌}
use Rattle.std.proofs.Common.{length, take, drop, get_or, map, sym, ap, ◌∙◌, arith, inl, inr}
use Rattle.std.specs.Prelude.{Contains, slice_index_or}
use Rattle.std.specs.List.{list_all}
use Rattle.std.proofs.Math.Seq.{drop-cons}
use Rattle.std.proofs.lemmas.List.{map_more, take-append-drop}
use Rattle.std.proofs.lemmas.List.Elements.{All-contains, All-contains_itself}
use Rattle.std.proofs.lemmas.List.Sums.{AllPass-from_list_all, list_all-from_AllPass}

pub in_none : {X : Type 0} (x : X) → Contains [] x → ⊥
in_none x h = omega (arith, h.1)

pub in_first : {X : Type 0} (y : X) (ys : List X) (x : X) → y ≡ x → Contains (y ∷ ys) x
in_first y ys x e = (0, omega arith, e)

pub in_rest : {X : Type 0} (y : X) (ys : List X) (x : X) → Contains ys x → Contains (y ∷ ys) x
in_rest y ys x h = (suc h.0, omega (arith, h.1), h.2)

-- the first item, or one of the others
pub in_either : {X : Type 0} (y : X) (ys : List X) (x : X) → Contains (y ∷ ys) x →
    (y ≡ x) ⊎ Contains ys x
in_either {X} y ys x h = at h.0 h.1 h.2
  where
    at : (k : ℕ) → k < length (y ∷ ys) → slice_index_or (y ∷ ys) k x ≡ x → (y ≡ x) ⊎ Contains ys x
    at zero lt e = inl e
    at (suc k) lt e = inr (k, omega (arith, lt), e)

-- a test passes for all items exactly if it passes for each that is in the list
pub passes_of : {X : Type 0} (p : X → Bool) (xs : List X) (x : X) → list_all p xs ≡ true →
    Contains xs x → p x ≡ true
passes_of p xs x h m = All-contains (λ y. p y ≡ true) xs x (AllPass-from_list_all p xs h) m

pub passes_from : {X : Type 0} (p : X → Bool) (xs : List X) →
    ((x : X) → Contains xs x → p x ≡ true) → list_all p xs ≡ true
passes_from p xs f = list_all-from_AllPass p xs (λ k d lt.
    f (slice_index_or xs k d) (All-contains_itself xs k d lt))

-- ---- an item at an index

-- the list with it in the middle
pub split_at_index : {A : Type 0} (xs : List A) (i : ℕ) (x : A) → x ≡ get_or xs i x →
    i < length xs → xs ≡ take i xs ++ x ∷ drop (suc i) xs
split_at_index {A} xs i x is lt =
    sym (take-append-drop i xs) ∙ ap (λ (l : List A). take i xs ++ l) (drop-cons xs i x lt)
    ∙ ap (λ (y : A). take i xs ++ y ∷ drop (suc i) xs) (sym is)

-- the images of those before it, and its own
pub next_mapped : {A B : Type 0} (f : A → B) (xs : List A) (i : ℕ) (x : A) →
    x ≡ get_or xs i x → i < length xs → map f (take (i + 1) xs) ≡ map f (take i xs) ++ f x ∷ []
next_mapped f xs i x is lt =
    map_more f xs i x lt ∙ ap (λ y. map f (take i xs) ++ f y ∷ []) (sym is)
