-- The first part of a list that is split at the elements of a class.
use Rattle.std.proofs.Common.{◌≡◌, ℕ, ◌+◌, ◌<◌, ◌==◌, Bool, true, false, List, [], ◌∷◌, ◌++◌}
use Rattle.std.proofs.Common.{length, drop, take, get_or, sym, ap, ◌∙◌, arith}
use Rattle.std.proofs.lemmas.List.{drop_more, take-append-drop}
use Rattle.std.proofs.lemmas.List.Splits.{slice_split_at, slice_split_none}
use Rattle.std.specs.List.{All, slice_split}

-- .. of a list that has one
pub split-at : (p : ℕ → Bool) (xs : List ℕ) (i : ℕ) → i < length xs →
    All (λ b. p b ≡ false) (take i xs) → p (get_or xs i 0) ≡ true
    → slice_split p xs ≡ take i xs ∷ slice_split p (drop (i + 1) xs)
split-at p xs i lt none at =
    let shape : xs ≡ take i xs ++ get_or xs i 0 ∷ drop (i + 1) xs =
    sym (take-append-drop i xs) ∙ ap (λ (t : List ℕ). take i xs ++ t) (drop_more xs i 0 lt) in
    ap (slice_split p) shape ∙ slice_split_at p (take i xs) (get_or xs i 0)
    (drop (i + 1) xs) none at

-- .. of a list that has none
pub split-whole : (p : ℕ → Bool) (xs : List ℕ) → All (λ b. p b ≡ false) xs →
    slice_split p xs ≡ xs ∷ []
split-whole p xs none = slice_split_none p xs none

pub same_byte : (a b : ℕ) → a ≡ b → (a == b) ≡ true
same_byte a b e = grind (arith, e)
