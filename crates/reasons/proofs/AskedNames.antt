-- Where names stand among those of the packages that are asked about, as the code finds it.
use Rattle.std.proofs.Common.{◌≡◌, ℕ, zero, suc, ◌<◌, List, [], ◌∷◌, length}
use Rattle.std.proofs.Common.{ap, arith, get_or, inl, inr, map, refl, subst}
use Rattle.std.specs.Prelude.{Contains}
use Rattle.std.specs.List.Sorted.{IsNonDecreasingBy, IsPartitionPoint}
use Rattle.std.specs.Ordering.{ordering_index}
use Rattle.std.specs.declared.cmp.Ordering.{Ordering}
use Rattle.std.specs.declared.cmp.Ordering.TheVariants.{Less, Equal, Greater}
use Rattle.pep_require.specs.Requirement.{IsAscending}
use Rattle.pep_require.proofs.Members.{in_either, in_none}
use Rattle.pep_table.proofs.EntryPlaces.{none_named}
use Rattle.demands.proofs.KeptSets.{same_text, text_cmp}
use Rattle.reasons.specs.Way.Asked.{names_in}
use Rattle.reasons.specs.declared.asked.Asked.{Asked}

-- how a package's name stands to a name
abbrev pub against : List ℕ → Asked → Ordering
against n a = text_cmp a.name n

-- ---- a name that is found

pub found_at : (n : List ℕ) (xs : List Asked) (k : ℕ) → k < length xs →
    ((d : Asked) → against n (get_or xs k d) ≡ Equal) →
    (k < length (names_in xs)) × (get_or (names_in xs) k [] ≡ n)
found_at n [] k lt h = absurd (omega (arith, lt))
found_at n (x ∷ xs) zero lt h = (omega arith, same_text x.name n (h x))
found_at n (x ∷ xs) (suc k) lt h =
    let rest = found_at n xs k (omega (arith, lt)) h in (omega (arith, rest.0), rest.1)

-- ---- a name that isn't there

names_are : (xs : List Asked) → names_in xs ≡ map (λ (a : Asked). a.name) xs
names_are [] = refl
names_are (x ∷ xs) = ap (λ ns. x.name ∷ ns) (names_are xs)

none_at : (n : List ℕ) (xs : List Asked) →
    ((k : ℕ) (d : Asked) → k < length xs → (get_or xs k d).name ≡ n → ⊥) →
    Contains (names_in xs) n → ⊥
none_at n [] h m = in_none n m
none_at n (x ∷ xs) h m = elim (in_either x.name (names_in xs) n m) [
  | inl e ↦ h 0 x (omega arith) e
  | inr more ↦ none_at n xs (λ k d lt e. h (suc k) d (omega (arith, lt)) e) more
]

pub none_found : (n : List ℕ) (xs : List Asked) (i : ℕ) → IsAscending (names_in xs) →
    (IsNonDecreasingBy (λ (a : Asked). ordering_index (against n a)) xs →
    IsPartitionPoint (λ (a : Asked). against n a ≡ Less) (λ a. against n a ≡ Greater) xs i) →
    Contains (names_in xs) n → ⊥
none_found n xs i up h m =
    none_at n xs (none_named (λ (a : Asked). a.name) n xs i (subst IsAscending (names_are xs) up) h) m
