-- Texts that are read as requirements, one by one, and elements that are numbered.
use Rattle.std.proofs.Common.{◌≡◌, ℕ, suc, ◌+◌, ◌<◌, List, [], ◌∷◌, ◌++◌, length, take, drop}
use Rattle.std.proofs.Common.{get_or, length-take-le, map, refl, sym, ap, subst, ◌∙◌, inl, inr}
use Rattle.std.proofs.Common.{arith}
use Rattle.std.specs.Prelude.{Contains}
use Rattle.std.specs.List.{AllZip}
use Rattle.std.proofs.lemmas.List.{length-map, map-append}
use Rattle.std.proofs.lemmas.List.Elements.{Contains-append_right}
use Rattle.pep_require.specs.Reads.{Reads}
use Rattle.pep_require.specs.Requirement.{RequirementParts}
use Rattle.pep_require.proofs.Members.{in_either, in_first, in_none, in_rest, next_mapped}
use Rattle.pep_require.proofs.Members.{split_at_index}
use Rattle.documents.specs.RefusedProject.{IsNumbered}

-- ---- texts and their requirements

pub zip_append : (xs ys : List (List ℕ)) (rs ss : List RequirementParts) → AllZip Reads xs rs →
    AllZip Reads ys ss → AllZip Reads (xs ++ ys) (rs ++ ss)
zip_append [] ys [] ss z w = w
zip_append [] ys (r ∷ rs) ss z w = absurd z
zip_append (x ∷ xs) ys [] ss z w = absurd z
zip_append (x ∷ xs) ys (r ∷ rs) ss z w = (z.0, zip_append xs ys rs ss z.1 w)

-- each requirement is what one of the texts is read as
pub zip_line : (xs : List (List ℕ)) (rs : List RequirementParts) (r : RequirementParts) →
    AllZip Reads xs rs → Contains rs r → (x : List ℕ) × Contains xs x × Reads x r
zip_line [] [] r z has = absurd (in_none r has)
zip_line [] (q ∷ rs) r z has = absurd z
zip_line (x ∷ xs) [] r z has = absurd z
zip_line (x ∷ xs) (q ∷ rs) r z has = elim (in_either q rs r has) [
  | inl same ↦ (x, in_first x xs x refl, subst (Reads x) same z.0)
  | inr more ↦ let h = zip_line xs rs r z.1 more in (h.0, in_rest x xs h.0 h.1, h.2)
]

-- .. and each text is read as one of the requirements
pub zip_read : (xs : List (List ℕ)) (rs : List RequirementParts) (x : List ℕ) →
    AllZip Reads xs rs → Contains xs x → (r : RequirementParts) × Contains rs r × Reads x r
zip_read [] [] x z has = absurd (in_none x has)
zip_read [] (q ∷ rs) x z has = absurd z
zip_read (y ∷ xs) [] x z has = absurd z
zip_read (y ∷ xs) (q ∷ rs) x z has = elim (in_either y xs x has) [
  | inl same ↦ (q, in_first q rs q refl, subst (λ (t : List ℕ). Reads t q) same z.0)
  | inr more ↦ let h = zip_read xs rs x z.1 more in (h.0, in_rest q rs h.0 h.1, h.2)
]

-- ---- numbered elements

pub numbered_in : {A : Type 0} (xs : List A) (number : ℕ) (x : A) → IsNumbered xs number x →
    Contains xs x
numbered_in xs number x at =
    subst (λ l. Contains l x) (sym at.whole)
    (Contains-append_right at.before (x ∷ at.behind) x (in_first x at.behind x refl))

-- the element at an index is numbered by the index and one
pub numbered : {A : Type 0} (xs : List A) (k n : ℕ) (x : A) → k < length xs → x ≡ get_or xs k x →
    n ≡ k → IsNumbered xs (n + 1) x
numbered xs k n x lt is counted = record {
  before = take k xs;
  behind = drop (suc k) xs;
  whole = split_at_index xs k x is lt;
  counted = ap (λ m. m + 1) (counted ∙ sym (length-take-le k xs (omega (arith, lt))));
}

pub numbered_mapped : {A B : Type 0} (f : A → B) (xs : List A) (n : ℕ) (x : A) →
    IsNumbered xs n x → IsNumbered (map f xs) n (f x)
numbered_mapped f xs n x at = record {
  before = map f at.before;
  behind = map f at.behind;
  whole = ap (map f) at.whole ∙ map-append f at.before (x ∷ at.behind);
  counted = at.counted ∙ ap (λ m. m + 1) (sym (length-map at.before f));
}

-- ---- a loop that reads texts

-- one text more
pub read_more : {A B : Type 0} (text : A → List ℕ) (parts : B → RequirementParts) (xs : List A)
    (k : ℕ) (x : A) (rs : List B) (r : B) → x ≡ get_or xs k x → k < length xs →
    AllZip Reads (map text (take k xs)) (map parts rs) → Reads (text x) (parts r) →
    AllZip Reads (map text (take (k + 1) xs)) (map parts (rs ++ r ∷ []))
read_more text parts xs k x rs r is lt z reads =
    subst (λ (l : List (List ℕ)). AllZip Reads l (map parts (rs ++ r ∷ [])))
    (sym (next_mapped text xs k x is lt))
    (subst (AllZip Reads (map text (take k xs) ++ text x ∷ []))
    (sym (map-append parts rs (r ∷ [])))
    (zip_append (map text (take k xs)) (text x ∷ []) (map parts rs) (parts r ∷ []) z (reads, tt)))
