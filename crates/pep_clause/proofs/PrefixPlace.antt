-- The versions with a prefix are those from the developmental release 0 of the prefix up to its end
-- ("Version matching"), for numbers of 64 bits.
use Rattle.std.proofs.Common.{◌≡◌, ℕ, ◌+◌, ◌<◌, ◌≤◌, ◌&&◌, ◌==◌, Bool, true, false, not, List, []}
use Rattle.std.proofs.Common.{◌∷◌, Option, Some, None, nat_lt, refl, sym, ap, inl, inr, ◌∙◌, arith}
use Rattle.std.proofs.lemmas.Bool.{cases_order}
use Rattle.std.proofs.lemmas.Bool.Decides.{nat_tests}
use Rattle.std.specs.List.{AllByRecursion}
use Rattle.std.specs.Ordering.{is_eq, is_le, is_lt, nat_cmp, ordering_then}
use Rattle.std.specs.Prelude.{if◌then◌else◌}
use Rattle.std.specs.declared.cmp.Ordering.{Ordering}
use Rattle.std.specs.declared.cmp.Ordering.TheVariants.{Less, Equal, Greater}
use Rattle.pep_version.specs.Order.{release_cmp, suffix_cmp}
use Rattle.pep_version.specs.Version.{Fits, IsVersion, Version}
use Rattle.specifiers.specs.Admits.{begins_padded, has_prefix}
use Rattle.texts.proofs.Connectives.{by_answer}
use Rattle.specifiers.specs.Clause.{Prefix}
use Rattle.pep_clause.specs.Cut.{final_version, is_under}
use Rattle.pep_clause.proofs.LeastCut.{none-under_least}
use Rattle.pep_clause.specs.OperatorTable.{before_dev, before_prefix, last, prefix_end}
use Rattle.pep_clause.specs.OperatorTable.{prefix_end_at, raised, raised_first, with_dev}
use Rattle.pep_clause.proofs.Rows.{is_below-place_of}
use Rattle.pep_clause.proofs.OrderRows.{then_not_below}

-- ---- a number in front

by_order : {G : Type 0} (n m : ℕ) → (n < m → G) → (n ≡ m → G) → (m < n → G) → G
by_order n m f g h =
    elim (cases_order n m) [ inl e ↦ g e | inr d ↦ elim d [ inl e ↦ f e | inr e ↦ h e ] ]

-- a test on two numbers, and their comparison, either way round
equal_tests : (m n : ℕ) → ((m == n) ≡ is_eq (nat_cmp n m)) × ((n == m) ≡ is_eq (nat_cmp n m))
equal_tests m n =
    by_order n m
    (λ (e : n < m). (grind (arith, nat_tests), grind (arith, nat_tests)))
    (λ (e : n ≡ m). (grind (arith, nat_tests), grind (arith, nat_tests)))
    (λ (e : m < n). (grind (arith, nat_tests), grind (arith, nat_tests)))

-- below the next number is not above this one
next_test : (m n : ℕ) → is_lt (nat_cmp n (m + 1)) ≡ is_le (nat_cmp n m)
next_test m n =
    by_order n m
    (λ (e : n < m). grind (arith, nat_tests))
    (λ (e : n ≡ m). grind (arith, nat_tests))
    (λ (e : m < n). grind (arith, nat_tests))

not_above : (m n top : ℕ) → nat_lt m top ≡ false → n ≤ top → is_le (nat_cmp n m) ≡ true
not_above m n top t h =
    by_order n m
    (λ (e : n < m). grind (arith, nat_tests))
    (λ (e : n ≡ m). grind (arith, nat_tests))
    (λ (e : m < n). grind (arith, nat_tests))

last_test : (m n : ℕ) → nat_lt m last ≡ false → Fits n → is_le (nat_cmp n m) ≡ true
last_test m n t h = not_above m n last t (omega arith)

-- of a number in front and what is behind: the end and the beginning have the same number
same_by : (r s c : Ordering) (b : Bool) → b ≡ (is_lt s && not (is_lt c))
    → (is_eq r && b) ≡ (is_lt (ordering_then r s) && not (is_lt (ordering_then r c)))
same_by Less s c b e = refl
same_by Equal s c b e = e
same_by Greater s c b e = refl

-- the end has the next number
next_by : (r c : Ordering) (b : Bool) → b ≡ not (is_lt c) →
    (is_eq r && b) ≡ (is_le r && not (is_lt (ordering_then r c)))
next_by Less c b e = refl
next_by Equal c b e = e
next_by Greater c b e = refl

-- there is no next number
last_by : (r c : Ordering) (b : Bool) → is_le r ≡ true → b ≡ not (is_lt c) →
    (is_eq r && b) ≡ not (is_lt (ordering_then r c))
last_by Less c b h e = refl
last_by Equal c b h e = e
last_by Greater c b h e = cc h

-- ---- releases

-- nothing is below the release that is all zeros
pub none-below_zeros : (release : List ℕ) → is_lt (release_cmp release []) ≡ false
none-below_zeros [] = refl
none-below_zeros (n ∷ rest) =
    then_not_below (nat_cmp n 0) (release_cmp rest []) (none-below_zeros rest)
    ∙ grind (arith, nat_tests)

-- below the raised release, where one can be raised
abbrev is_below_raised : Option (List ℕ) → List ℕ → Bool
is_below_raised None release = true
is_below_raised (Some high) release = is_lt (release_cmp release high)

-- one number more in front of the prefix and of the release
raised_by : (m n : ℕ) (high : Option (List ℕ)) (rest more : List ℕ) → Fits n
    → begins_padded rest more ≡ (is_below_raised high more && not (is_lt (release_cmp more rest)))
    → ((m == n) && begins_padded rest more)
    ≡ (is_below_raised (raised_first m high) (n ∷ more)
    && not (is_lt (ordering_then (nat_cmp n m) (release_cmp more rest))))
raised_by m n (Some high) rest more h e =
    (λ i. (equal_tests m n).0 i && begins_padded rest more)
    ∙ same_by (nat_cmp n m) (release_cmp more high) (release_cmp more rest)
    (begins_padded rest more) e
raised_by m n None rest more h e =
    (λ i. (equal_tests m n).0 i && begins_padded rest more)
    ∙ by_answer (nat_lt m last) can_raise cannot_raise
  where
    can_raise : nat_lt m last ≡ true
        → (is_eq (nat_cmp n m) && begins_padded rest more)
        ≡ (is_below_raised (raised_first m None) (n ∷ more)
        && not (is_lt (ordering_then (nat_cmp n m) (release_cmp more rest))))
    can_raise t = rw t (
        next_by (nat_cmp n m) (release_cmp more rest) (begins_padded rest more) e
        ∙ (λ i. sym (then_not_below (nat_cmp n (m + 1)) (release_cmp more [])
        (none-below_zeros more) ∙ next_test m n) i
        && not (is_lt (ordering_then (nat_cmp n m) (release_cmp more rest)))))

    cannot_raise : nat_lt m last ≡ false
        → (is_eq (nat_cmp n m) && begins_padded rest more)
        ≡ (is_below_raised (raised_first m None) (n ∷ more)
        && not (is_lt (ordering_then (nat_cmp n m) (release_cmp more rest))))
    cannot_raise t =
        rw t (last_by (nat_cmp n m) (release_cmp more rest) (begins_padded rest more)
        (last_test m n t h) e)

padded_by : (b : Bool) (m : ℕ)
    → is_below_raised (if b then Some ((m + 1) ∷ []) else None) (0 ∷ [])
    ≡ is_below_raised (if b then Some ((m + 1) ∷ []) else None) []
padded_by true m = refl
padded_by false m = refl

padded : (m : ℕ) (high : Option (List ℕ)) → is_below_raised (raised_first m high) (0 ∷ [])
    ≡ is_below_raised (raised_first m high) []
padded m (Some high) = refl
padded m None = padded_by (nat_lt m last) m

-- a release begins with the prefix exactly if it is not below the prefix and below the prefix
-- raised
pub begins-raised : (prefix release : List ℕ) → AllByRecursion Fits release
    → begins_padded prefix release ≡ (is_below_raised (raised prefix) release
    && not (is_lt (release_cmp release prefix)))
begins-raised [] release h = ap not (sym (none-below_zeros release))
begins-raised (m ∷ rest) [] h =
    raised_by m 0 (raised rest) rest [] (omega arith) (begins-raised rest [] tt)
    ∙ (λ i. padded m (raised rest) i
    && not (is_lt (ordering_then (nat_cmp 0 m) (release_cmp [] rest))))
begins-raised (m ∷ rest) (n ∷ more) h =
    raised_by m n (raised rest) rest more h.0 (begins-raised rest more h.1)

-- ---- versions

-- nothing is below the developmental release 0 of the same release
none-below_first : (v : Version) →
    is_lt (suffix_cmp v (with_dev 0 (final_version (record { epoch = 0; release = [] })))) ≡ false
none-below_first v = none-under_least (record v { epoch = 0; release = 0 ∷ [] })

-- under the developmental release 0 of a release is what is below it by epoch and release
pub under-before_dev : (epoch : ℕ) (release : List ℕ) (v : Version)
    → is_under (before_dev epoch release) v
    ≡ is_lt (ordering_then (nat_cmp v.epoch epoch) (release_cmp v.release release))
under-before_dev epoch release v =
    is_below-place_of v (with_dev 0 (final_version (record { epoch = epoch; release = release })))
    ∙ then_not_below (ordering_then (nat_cmp v.epoch epoch) (release_cmp v.release release)) _
    (none-below_first v)

none-below_first_release : (release : List ℕ) → is_lt (release_cmp release (0 ∷ [])) ≡ false
none-below_first_release [] = refl
none-below_first_release (n ∷ rest) = none-below_zeros (n ∷ rest)

-- by the end of the release
end_by : (epoch : ℕ) (prefix : List ℕ) (high : Option (List ℕ)) (v : Version) → Fits v.epoch
    → begins_padded prefix v.release ≡ (is_below_raised high v.release
    && not (is_lt (release_cmp v.release prefix)))
    → (is_eq (nat_cmp v.epoch epoch) && begins_padded prefix v.release)
    ≡ (is_under (prefix_end_at epoch high) v
    && not (is_lt (ordering_then (nat_cmp v.epoch epoch) (release_cmp v.release prefix))))
end_by epoch prefix (Some high) v h e =
    same_by (nat_cmp v.epoch epoch) (release_cmp v.release high) (release_cmp v.release prefix)
    (begins_padded prefix v.release) e
    ∙ (λ i. sym (under-before_dev epoch high v) i
    && not (is_lt (ordering_then (nat_cmp v.epoch epoch) (release_cmp v.release prefix))))
end_by epoch prefix None v h e = by_answer (nat_lt epoch last) can_raise cannot_raise
  where
    can_raise : nat_lt epoch last ≡ true
        → (is_eq (nat_cmp v.epoch epoch) && begins_padded prefix v.release)
        ≡ (is_under (prefix_end_at epoch None) v
        && not (is_lt (ordering_then (nat_cmp v.epoch epoch) (release_cmp v.release prefix))))
    can_raise t = rw t (
        next_by (nat_cmp v.epoch epoch) (release_cmp v.release prefix)
        (begins_padded prefix v.release) e
        ∙ (λ i. sym (under-before_dev (epoch + 1) (0 ∷ []) v
        ∙ then_not_below (nat_cmp v.epoch (epoch + 1)) (release_cmp v.release (0 ∷ []))
        (none-below_first_release v.release) ∙ next_test epoch v.epoch) i
        && not (is_lt (ordering_then (nat_cmp v.epoch epoch) (release_cmp v.release prefix)))))

    cannot_raise : nat_lt epoch last ≡ false
        → (is_eq (nat_cmp v.epoch epoch) && begins_padded prefix v.release)
        ≡ (is_under (prefix_end_at epoch None) v
        && not (is_lt (ordering_then (nat_cmp v.epoch epoch) (release_cmp v.release prefix))))
    cannot_raise t =
        rw t (last_by (nat_cmp v.epoch epoch) (release_cmp v.release prefix)
        (begins_padded prefix v.release) (last_test epoch v.epoch t h) e)

-- a version has the prefix exactly if it is under the prefix's end and not under its beginning
pub prefix-under : (p : Prefix) (v : Version) → IsVersion v
    → has_prefix p v ≡ (is_under (prefix_end p) v && not (is_under (before_prefix p) v))
prefix-under p v h =
    (λ i. (equal_tests p.epoch v.epoch).1 i && begins_padded p.release v.release)
    ∙ end_by p.epoch p.release (raised p.release) v h.numbers.epoch
    (begins-raised p.release v.release h.numbers.release)
    ∙ (λ i. is_under (prefix_end p) v && not (sym (under-before_dev p.epoch p.release v) i))
