-- The first line of a text, where a search found its end.
use Rattle.std.proofs.Common.{◌≡◌, ℕ, ◌<◌, ◌≤◌, Bool, true, false, List, length, take}
use Rattle.std.proofs.Common.{arith, refl}
use Rattle.std.proofs.lemmas.List.{get_or-take, length-take-le}
use Rattle.std.proofs.lemmas.List.Elements.{All-from_get_or}
use Rattle.std.specs.List.{All}
use Rattle.memchr.specs.Find.{Nowhere, Passes}

not_true : (b : Bool) → ¬ (b ≡ true) → b ≡ false
not_true true h = absurd (h refl)
not_true false h = refl

-- before the place that a search finds stands no such byte
pub none_before : (p : ℕ → Bool) (xs : List ℕ) (k : ℕ) → k ≤ length xs →
    Nowhere (Passes p xs) 0 k → All (λ b. p b ≡ false) (take k xs)
none_before p xs k within h =
    All-from_get_or (λ b. p b ≡ false) (take k xs) 0
    (λ i l. let lt : i < k = omega (arith, l, length-take-le k xs within) in
    rw (get_or-take k xs i 0 lt) (not_true _ (h i (omega arith) lt)))

pub none_at_all : (p : ℕ → Bool) (xs : List ℕ) → Nowhere (Passes p xs) 0 (length xs) →
    All (λ b. p b ≡ false) xs
none_at_all p xs h =
    All-from_get_or (λ b. p b ≡ false) xs 0 (λ i l. not_true _ (h i (omega arith) l))
