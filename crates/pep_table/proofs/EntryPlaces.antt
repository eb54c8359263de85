-- The entries of a table by their places.
use Rattle.std.proofs.Common.{◌≡◌, ℕ, zero, suc, ◌+◌, ◌<◌, ◌≤◌, Bool, true, false, List, [], ◌∷◌}
use Rattle.std.proofs.Common.{◌++◌, length, Option, Some, None, refl, sym, ap, subst, ◌∙◌, inl, inr}
use Rattle.std.proofs.Common.{arith, get_or, map}
use Rattle.std.specs.Prelude.{bytes_eq, nat_lt, slice_index_or}
use Rattle.std.specs.List.{All}
use Rattle.std.specs.List.Sorted.{IsNonDecreasingBy, IsPartitionPoint}
use Rattle.std.specs.Cmp.Lexicographic.{nat_list_cmp_total}
use Rattle.std.specs.Ordering.{ordering_index}
use Rattle.std.specs.declared.cmp.Ordering.{Ordering}
use Rattle.std.specs.declared.cmp.Ordering.TheVariants.{Less, Equal, Greater}
use Rattle.std.proofs.lemmas.Bool.{ltb-false, ltb-true}
use Rattle.std.proofs.lemmas.List.Elements.{All-head, All-tail}
use Rattle.std.proofs.lemmas.List.Sorted.{IsNonDecreasingBy-from_all_adjacent}
use Rattle.std.proofs.lemmas.Slice.Eq.{bytes_eq-Decides}
use Rattle.pep_require.specs.Requirement.{IsAscending}
use Rattle.pep_require.proofs.Ascending.{IsIn, first_below, irreflexive, rest_ascends}
use Rattle.demands.specs.Join.{JoinsAt, JoinsTables}
use Rattle.pep_table.specs.OneText.{absent, entry_first, entry_other, eq_true, name_there}
use Rattle.demands.specs.Table.{EntryParts, IsValidEntry, IsValidTable, Named, TableParts, entry_at, names}
use Rattle.pep_table.specs.TableLaws.{alone, left_kept}
use Rattle.demands.proofs.KeptSets.{above, same_text, text_cmp}

-- ---- an entry behind others

-- of valid entries the next is valid, and so are those behind it
pub next_valid : (left more : TableParts) (p : Named) → All (λ p. IsValidEntry p.1) left → left ≡ p ∷ more →
    IsValidEntry p.1 × All (λ p. IsValidEntry p.1) more
next_valid left more p valid split =
    let all = subst (All (λ p. IsValidEntry p.1)) split valid in
    (All-head (λ p. IsValidEntry p.1) p more all, All-tail (λ p. IsValidEntry p.1) p more all)

-- no entry before has the name of one behind it
pub behind_apart : (t : TableParts) (p : Named) (rest : TableParts) →
    IsAscending (names (t ++ p ∷ rest)) → IsIn (names t) p.0 → ⊥
behind_apart [] p rest up m = m
behind_apart (q ∷ t) p rest up (inl e) =
    irreflexive p.0 (subst (λ n. text_cmp n p.0 ≡ Less) (sym e)
    (first_below q.0 (names (t ++ p ∷ rest)) p.0 up (in_middle t)))
  where
    in_middle : (s : TableParts) → IsIn (names (s ++ p ∷ rest)) p.0
    in_middle [] = inl refl
    in_middle (r ∷ s) = inr (in_middle s)
behind_apart (q ∷ t) p rest up (inr m) =
    behind_apart t p rest (rest_ascends q.0 (names (t ++ p ∷ rest)) up) m

pub last_entry : (t : TableParts) (p : Named) → (IsIn (names t) p.0 → ⊥) →
    entry_at (t ++ p ∷ []) p.0 ≡ Some p.1
last_entry [] p new = entry_first p []
last_entry (q ∷ t) p new =
    entry_other q (t ++ p ∷ []) p.0 (λ e. new (inl (sym e))) ∙ last_entry t p (λ m. new (inr m))

pub other_entry : (t : TableParts) (p : Named) (n : List ℕ) → (p.0 ≡ n → ⊥) →
    entry_at (t ++ p ∷ []) n ≡ entry_at t n
other_entry [] p n other = entry_other p [] n other
other_entry (q ∷ t) p n other = by (bytes_eq q.0 n) refl (other_entry t p n other)
  where
    by : (b : Bool) → bytes_eq q.0 n ≡ b → entry_at (t ++ p ∷ []) n ≡ entry_at t n →
        entry_at (q ∷ (t ++ p ∷ [])) n ≡ entry_at (q ∷ t) n
    by true e rest = rw e refl
    by false e rest = rw e rest

-- joined with nothing
pub joins_none : (a : TableParts) → IsValidTable a → JoinsTables a [] a
joins_none a v = record { valid = v; entries = λ q. alone (entry_at a q) }

-- joined with one entry more
pub joins_next : (a b c t more rest : TableParts) (p : Named) → JoinsTables a t b →
    JoinsTables b (p ∷ []) c → more ≡ t ++ p ∷ [] → IsAscending (names (t ++ p ∷ rest)) →
    JoinsTables a more c
joins_next a b c t more rest p h g e up = record {
  valid = g.valid;
  entries = λ q. subst (λ m. JoinsAt (entry_at a q) (entry_at m q) (entry_at c q)) (sym e)
      (at q (bytes_eq p.0 q) refl (h.entries q) (g.entries q));
}
  where
    new : IsIn (names t) p.0 → ⊥
    new = behind_apart t p rest up

    own : (o r s : Option EntryParts) → JoinsAt o None r → JoinsAt r (Some p.1) s →
        JoinsAt o (Some p.1) s
    own o r s h g = subst (λ x. JoinsAt x (Some p.1) s) (left_kept o r h) g

    at : (q : List ℕ) (w : Bool) → bytes_eq p.0 q ≡ w →
        JoinsAt (entry_at a q) (entry_at t q) (entry_at b q) →
        JoinsAt (entry_at b q) (entry_at (p ∷ []) q) (entry_at c q) →
        JoinsAt (entry_at a q) (entry_at (t ++ p ∷ []) q) (entry_at c q)
    at q true same h g =
        let is : p.0 ≡ q = (bytes_eq-Decides p.0 q).0 same in
        let none : entry_at t q ≡ None =
        ap (entry_at t) (sym is) ∙ absent t p.0 new in
        let one : entry_at (p ∷ []) q ≡ Some p.1 =
        ap (entry_at (p ∷ [])) (sym is) ∙ entry_first p [] in
        let found : entry_at (t ++ p ∷ []) q ≡ Some p.1 =
        ap (entry_at (t ++ p ∷ [])) (sym is) ∙ last_entry t p new in
        subst (λ x. JoinsAt (entry_at a q) x (entry_at c q)) (sym found)
        (own (entry_at a q) (entry_at b q) (entry_at c q)
        (subst (λ x. JoinsAt (entry_at a q) x (entry_at b q)) none h)
        (subst (λ x. JoinsAt (entry_at b q) x (entry_at c q)) one g))
    at q false apart h g =
        let differ : p.0 ≡ q → ⊥ =
        λ is. let both : true ≡ false = sym (eq_true p.0 q is) ∙ apart in cc both in
        let kept : entry_at c q ≡ entry_at b q =
        left_kept (entry_at b q) (entry_at c q)
        (subst (λ x. JoinsAt (entry_at b q) x (entry_at c q)) (entry_other p [] q differ) g) in
        subst (λ x. JoinsAt (entry_at a q) x (entry_at c q)) (sym (other_entry t p q differ))
        (subst (λ x. JoinsAt (entry_at a q) (entry_at t q) x) (sym kept) h)

-- ---- an entry that a search finds

pub entry_at-place : (t : TableParts) (n : List ℕ) (i : ℕ) (d : Named) → IsAscending (names t) →
    i < length t → (slice_index_or t i d).0 ≡ n → entry_at t n ≡ Some (slice_index_or t i d).1
entry_at-place [] n i d up lt e = absurd (omega (arith, lt))
entry_at-place (p ∷ t) n zero d up lt e = ap (entry_at (p ∷ t)) (sym e) ∙ entry_first p t
entry_at-place (p ∷ t) n (suc i) d up lt e =
    behind (entry_at-place t n i d (rest_ascends p.0 (names t) up) (omega (arith, lt)) e)
  where
    behind : entry_at t n ≡ Some (slice_index_or t i d).1 →
        entry_at (p ∷ t) n ≡ Some (slice_index_or t i d).1
    behind rest =
        entry_other p t n (λ same. irreflexive p.0 (subst (λ x. text_cmp p.0 x ≡ Less) (sym same)
        (first_below p.0 (names t) n up (name_there t n (slice_index_or t i d).1 rest))))
        ∙ rest

none_at : (t : TableParts) (n : List ℕ) →
    ((i : ℕ) (d : Named) → i < length t → (slice_index_or t i d).0 ≡ n → ⊥) → entry_at t n ≡ None
none_at [] n h = refl
none_at (p ∷ t) n h =
    entry_other p t n (λ e. h 0 p (omega arith) e)
    ∙ none_at t n (λ i d lt e. h (suc i) d (omega (arith, lt)) e)

-- ---- a name's place among names that rise

module _ {A : Type 0} (name : A → List ℕ) (n : List ℕ) where
  adjacent : (xs : List A) → IsAscending (map name xs) → (k : ℕ) (d : A) → k + 1 < length xs →
      text_cmp (name (get_or xs k d)) (name (get_or xs (k + 1) d)) ≡ Less
  adjacent [] up k d lt = absurd (omega (arith, lt))
  adjacent (x ∷ []) up k d lt = absurd (omega (arith, lt))
  adjacent (x ∷ y ∷ xs) up zero d lt = up.0
  adjacent (x ∷ y ∷ xs) up (suc k) d lt =
      let more : suc k + 1 ≡ suc (k + 1) = omega arith in
      rw more (adjacent (y ∷ xs) up.1 k d (omega (arith, lt)))

  no_higher : (x y : List ℕ) → text_cmp x y ≡ Less →
      ordering_index (text_cmp x n) ≤ ordering_index (text_cmp y n)
  no_higher x y below = by (text_cmp y n) refl
    where
      by : (o : Ordering) → text_cmp y n ≡ o → ordering_index (text_cmp x n) ≤ ordering_index o
      by Less e = rw (nat_list_cmp_total.trans x y n below e) (omega arith)
      by Equal e = rw (subst (λ z. text_cmp x z ≡ Less) (same_text y n e) below) (omega arith)
      by Greater e = any (text_cmp x n)
        where
          any : (o : Ordering) → ordering_index o ≤ ordering_index Greater
          any Less = omega arith
          any Equal = omega arith
          any Greater = omega arith

  -- how they stand to a name rises with their places
  rises : (xs : List A) → IsAscending (map name xs) →
      IsNonDecreasingBy (λ (a : A). ordering_index (text_cmp (name a) n)) xs
  rises xs up = IsNonDecreasingBy-from_all_adjacent (λ (a : A). ordering_index (text_cmp (name a) n)) xs
      (λ k d lt. no_higher (name (get_or xs k d)) (name (get_or xs (k + 1) d)) (adjacent xs up k d lt))

  -- where those below it end and those above it begin, it stands nowhere
  pub none_named : (xs : List A) (i : ℕ) → IsAscending (map name xs) →
      (IsNonDecreasingBy (λ (a : A). ordering_index (text_cmp (name a) n)) xs →
      IsPartitionPoint (λ (a : A). text_cmp (name a) n ≡ Less) (λ a. text_cmp (name a) n ≡ Greater) xs i) →
      (k : ℕ) (d : A) → k < length xs → name (get_or xs k d) ≡ n → ⊥
  none_named xs i up h k d lt e = by (nat_lt k i) refl (h (rises xs up))
    where
      by : (b : Bool) → nat_lt k i ≡ b → IsPartitionPoint (λ (a : A). text_cmp (name a) n ≡ Less)
          (λ a. text_cmp (name a) n ≡ Greater) xs i → ⊥
      by true under point =
          irreflexive n (subst (λ x. text_cmp x n ≡ Less) e
          (point.0 k d (omega arith) (ltb-true k i under)))
      by false over point =
          let greater = subst (λ x. text_cmp x n ≡ Greater) e
          (point.1 k d (ltb-false k i over) lt) in
          irreflexive n (above n n greater)

pub none_found : (t : TableParts) (n : List ℕ) (i : ℕ) → IsAscending (names t) →
    (IsNonDecreasingBy (λ (p : Named). ordering_index (text_cmp p.0 n)) t →
    IsPartitionPoint (λ (p : Named). text_cmp p.0 n ≡ Less) (λ p. text_cmp p.0 n ≡ Greater) t i) →
    entry_at t n ≡ None
none_found t n i up h = none_at t n (none_named (λ (p : Named). p.0) n t i up h)
