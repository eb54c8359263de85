-- The ranges of `==R.*`, of `!=R.*` and of `~=V` hold what these clauses admit ("Version matching",
-- "Version exclusion", "Compatible release").
use Rattle.std.proofs.Common.{◌≡◌, ℕ, zero, suc, ◌+◌, ◌-◌, ◌<◌, ◌&&◌, ◌==◌, Bool, true, false, not}
use Rattle.std.proofs.Common.{List, [], ◌∷◌, length, take, Option, Some, None, nat_lt, refl, sym}
use Rattle.std.proofs.Common.{ap, ◌∙◌, arith}
use Rattle.std.proofs.lemmas.List.{length-take-le}
use Rattle.std.proofs.lemmas.Bool.Decides.{nat_tests}
use Rattle.std.specs.List.{AllByRecursion}
use Rattle.std.specs.Ordering.{is_lt}
use Rattle.std.specs.Prelude.{if◌then◌else◌}
use Rattle.std.specs.declared.cmp.Ordering.TheVariants.{Less}
use Rattle.pep_version.specs.Order.{is_below, place_of, short_release, without_end_zeros}
use Rattle.pep_version.specs.Version.{Fits, IsVersion, Version}
use Rattle.texts.specs.Lists.{is_empty}
use Rattle.specifiers.specs.Admits.{admits, begins_padded, compatible_prefix, has_prefix}
use Rattle.pep_clause.proofs.Between.{below-not_above, less_told}
use Rattle.specifiers.specs.Clause.{Prefix, compatible, excluding_prefix, matching_prefix, prefix_of}
use Rattle.pep_clause.specs.Cut.{Cut, IsCut, before, end, cut_cmp, final_version, is_under}
use Rattle.pep_clause.specs.Laws.{cut_total}
use Rattle.pep_clause.proofs.UnderCut.{is_under-cut_cmp}
use Rattle.pep_clause.specs.OperatorTable.{before_dev, before_place, before_prefix, last}
use Rattle.pep_clause.specs.OperatorTable.{prefix_end, prefix_end_at, raised, raised_first, set_of}
use Rattle.pep_clause.specs.OperatorTable.{with_dev}
use Rattle.pep_clause.specs.VersionSet.{IsNormal, is_in}
use Rattle.pep_clause.proofs.NormalJoined.{IsNormal-range}
use Rattle.pep_clause.proofs.PrefixPlace.{prefix-under}
use Rattle.pep_clause.proofs.RangeRows.{IsNormal-outside, outside-row, range-row}
use Rattle.pep_clause.proofs.Rows.{IsCut-before_place, IsVersion-with_dev, is_below-place_of}
use Rattle.pep_clause.proofs.Rows.{is_below-public}
use Rattle.pep_version.proofs.PlaceLemmas.{place-version}
use Rattle.texts.proofs.Connectives.{and_first, and_not_parts}
use Rattle.pep_clause.proofs.OrderRows.{next_fits}
use Rattle.specifiers.proofs.FinalVersion.{IsVersion-release}
use Rattle.pep_version.specs.Laws.{positive}

-- ---- the cuts are in their one spelling

IsCut-before_dev : (epoch : ℕ) (release : List ℕ) → Fits epoch → 0 < length release →
    AllByRecursion Fits release → IsCut (before_dev epoch release)
IsCut-before_dev epoch release e some fits =
    IsCut-before_place (with_dev 0 (final_version (record { epoch = epoch; release = release })))
    (IsVersion-with_dev (final_version (record { epoch = epoch; release = release }))
    (IsVersion-release epoch release e some fits))

-- a raised release, if there is one, has a number, and its numbers fit
abbrev IsRaised : Option (List ℕ) → Type 0
IsRaised None = Unit {0}
IsRaised (Some high) = (0 < length high) × AllByRecursion Fits high

raised_first-fits : (n : ℕ) (high : Option (List ℕ)) → Fits n → IsRaised high →
    IsRaised (raised_first n high)
raised_first-fits n (Some high) h g = (omega arith, (h, g.1))
raised_first-fits n None h g = by (nat_lt n last) (next_fits n)
  where
    by : (b : Bool) → (b ≡ true → Fits (n + 1)) → IsRaised (if b then Some ((n + 1) ∷ []) else None)
    by true fits = (omega arith, (fits refl, tt))
    by false fits = tt

raised-fits : (release : List ℕ) → AllByRecursion Fits release → IsRaised (raised release)
raised-fits [] h = tt
raised-fits (n ∷ rest) h = raised_first-fits n (raised rest) h.0 (raised-fits rest h.1)

IsCut-end_at : (epoch : ℕ) (high : Option (List ℕ)) → Fits epoch → IsRaised high →
    IsCut (prefix_end_at epoch high)
IsCut-end_at epoch (Some high) e h = IsCut-before_dev epoch high e h.0 h.1
IsCut-end_at epoch None e h = by (nat_lt epoch last) (next_fits epoch)
  where
    by : (b : Bool) → (b ≡ true → Fits (epoch + 1)) →
        IsCut (if b then before_dev (epoch + 1) (0 ∷ []) else end)
    by true fits = IsCut-before_dev (epoch + 1) (0 ∷ []) (fits refl) (omega arith) (omega arith, tt)
    by false fits = tt

pub IsCut-prefix_end : (p : Prefix) → IsVersion (final_version p) → IsCut (prefix_end p)
IsCut-prefix_end p h =
    IsCut-end_at p.epoch (raised p.release) h.numbers.epoch
    (raised-fits p.release h.numbers.release)

pub IsCut-before_prefix : (p : Prefix) → IsVersion (final_version p) → IsCut (before_prefix p)
IsCut-before_prefix p h =
    IsCut-before_dev p.epoch p.release h.numbers.epoch h.release h.numbers.release

-- ---- the prefix begins below its end

same_number : (n : ℕ) → (n == n) ≡ true
same_number n = grind (arith, nat_tests)

own_first : (n : ℕ) (b : Bool) → b ≡ true → ((n == n) && b) ≡ true
own_first n b e = rw (same_number n) e

-- without the zeros at its end, a release begins with the same numbers once it is padded
begins_without_zeros : (xs : List ℕ) → begins_padded xs (without_end_zeros xs) ≡ true
begins_without_zeros [] = refl
begins_without_zeros (n ∷ rest) = step n (without_end_zeros rest) (begins_without_zeros rest)
  where
    step : (n : ℕ) (ys : List ℕ) → begins_padded rest ys ≡ true →
        begins_padded (n ∷ rest) (if (n == 0) && is_empty ys then [] else n ∷ ys) ≡ true
    step zero [] e = e
    step zero (y ∷ ys) e = e
    step (suc n) ys e = rw (positive n) (own_first (suc n) (begins_padded rest ys) e)

begins_short : (xs : List ℕ) → begins_padded xs (short_release xs) ≡ true
begins_short [] = refl
begins_short (n ∷ rest) =
    own_first n (begins_padded rest (without_end_zeros rest)) (begins_without_zeros rest)

begins_taken : (k : ℕ) (xs : List ℕ) → begins_padded (take k xs) xs ≡ true
begins_taken zero xs = refl
begins_taken (suc k) [] = refl
begins_taken (suc k) (n ∷ rest) =
    own_first n (begins_padded (take k rest) rest) (begins_taken k rest)

-- the first version with the prefix
abbrev first_of : Prefix → Version
first_of p = place_of (with_dev 0 (final_version p))

has_own_prefix : (p : Prefix) → has_prefix p (first_of p) ≡ true
has_own_prefix p =
    own_first p.epoch (begins_padded p.release (short_release p.release)) (begins_short p.release)

-- the prefix begins below its end
-- the cuts made of a version's epoch and release are those of the prefix that it stands for
pub prefix_low-at : (v : Version) {e : ℕ} {r : List ℕ} {c : Cut} → c ≡ before_dev e r → e ≡ v.epoch →
    r ≡ v.release → c ≡ before_prefix (prefix_of v)
prefix_low-at v is epoch release = is ∙ (λ i. before_dev (epoch i) (release i))

pub prefix_high-at : (v : Version) {e : ℕ} {r : List ℕ} {c : Cut} →
    c ≡ prefix_end (record { epoch = e; release = r }) → e ≡ v.epoch → r ≡ v.release →
    c ≡ prefix_end (prefix_of v)
prefix_high-at v is epoch release =
    is ∙ (λ i. prefix_end (record { epoch = epoch i; release = release i }))

pub before_prefix-below_end : (p : Prefix) → IsVersion (final_version p) →
    cut_cmp (before_prefix p) (prefix_end p) ≡ Less
before_prefix-below_end p h =
    let first =
    place-version (with_dev 0 (final_version p)) (IsVersion-with_dev (final_version p) h) in
    let within : (is_under (prefix_end p) (first_of p)
    && not (is_under (before_prefix p) (first_of p))) ≡ true =
    sym (prefix-under p (first_of p) first) ∙ has_own_prefix p in
    less_told (cut_cmp (before_prefix p) (prefix_end p))
    (sym (is_under-cut_cmp (prefix_end p) (first_of p)) ∙ and_first _ _ within)

-- ---- a prefix, and all but a prefix

pub matching_prefix-row : (p : Prefix) (v : Version) → IsVersion v →
    is_in (set_of (matching_prefix p)) v ≡ admits (matching_prefix p) v
matching_prefix-row p v h = range-row (before_prefix p) (prefix_end p) v ∙ sym (prefix-under p v h)

pub excluding_prefix-row : (p : Prefix) (v : Version) → IsVersion v →
    is_in (set_of (excluding_prefix p)) v ≡ admits (excluding_prefix p) v
excluding_prefix-row p v h =
    outside-row (before_prefix p) (prefix_end p) v ∙ ap not (matching_prefix-row p v h)

pub matching_prefix-normal : (p : Prefix) → IsVersion (final_version p) →
    IsNormal (set_of (matching_prefix p))
matching_prefix-normal p h =
    IsNormal-range (before_prefix p) (prefix_end p) (IsCut-before_prefix p h) (IsCut-prefix_end p h)

pub excluding_prefix-normal : (p : Prefix) → IsVersion (final_version p) →
    IsNormal (set_of (excluding_prefix p))
excluding_prefix-normal p h =
    IsNormal-outside (before_prefix p) (prefix_end p) (IsCut-before_prefix p h)
    (IsCut-prefix_end p h) (before_prefix-below_end p h)

-- ---- a compatible release

fits_taken : (k : ℕ) (xs : List ℕ) → AllByRecursion Fits xs → AllByRecursion Fits (take k xs)
fits_taken zero xs h = tt
fits_taken (suc k) [] h = tt
fits_taken (suc k) (n ∷ rest) h = (h.0, fits_taken k rest h.1)

IsVersion-compatible_prefix : (w : Version) → IsVersion w → 1 < length w.release →
    IsVersion (final_version (compatible_prefix w))
IsVersion-compatible_prefix w h long =
    let some : 0 < length (take (length w.release - 1) w.release) =
    omega (arith, length-take-le (length w.release - 1) w.release) in
    IsVersion-release w.epoch (take (length w.release - 1) w.release) h.numbers.epoch some
    (fits_taken (length w.release - 1) w.release h.numbers.release)

-- a version has the prefix of its compatible releases
has_compatible_prefix : (w : Version) → has_prefix (compatible_prefix w) w ≡ true
has_compatible_prefix w =
    own_first w.epoch (begins_padded (take (length w.release - 1) w.release) w.release)
    (begins_taken (length w.release - 1) w.release)

-- what is under the prefix's beginning is below the version
below_start : (w v : Version) → IsVersion w → is_under (before_prefix (compatible_prefix w)) v
    ≡ true → is_below v w ≡ true
below_start w v h t =
    let start = before_prefix (compatible_prefix w) in
    let within : (is_under (prefix_end (compatible_prefix w)) w && not (is_under start w)) ≡ true =
    sym (prefix-under (compatible_prefix w) w h) ∙ has_compatible_prefix w in
    let not_under : is_lt (cut_cmp (before w) start) ≡ false =
    sym (is_under-cut_cmp start w) ∙ (and_not_parts _ _ within).1 in
    let under : cut_cmp (before v) start ≡ Less =
    less_told _ (sym (is_under-cut_cmp start v) ∙ t) in
    is_under-cut_cmp (before w) v
    ∙ ap is_lt (below-not_above cut_total (before v) start (before w) under not_under)

compatible_tests : (low start high : Bool) → (start ≡ true → low ≡ true) →
    (high && not low) ≡ (not low && (high && not start))
compatible_tests true start true f = refl
compatible_tests true start false f = refl
compatible_tests false true high f = cc (f refl)
compatible_tests false false high f = refl

pub compatible-row : (w v : Version) → IsVersion w → IsVersion v → w.label ≡ [] →
    is_in (set_of (compatible w)) v ≡ admits (compatible w) v
compatible-row w v h g none =
    let start = before_prefix (compatible_prefix w) in
    range-row (before_place w) (prefix_end (compatible_prefix w)) v
    ∙ (λ i. is_under (prefix_end (compatible_prefix w)) v && not (is_below-place_of v w i))
    ∙ compatible_tests (is_below v w) (is_under start v)
    (is_under (prefix_end (compatible_prefix w)) v) (below_start w v h)
    ∙ (λ i. not (is_below-public v w none i) && sym (prefix-under (compatible_prefix w) v g) i)

pub compatible-normal : (w : Version) → IsVersion w → 1 < length w.release →
    IsNormal (set_of (compatible w))
compatible-normal w h long =
    IsNormal-range (before_place w) (prefix_end (compatible_prefix w)) (IsCut-before_place w h)
    (IsCut-prefix_end (compatible_prefix w) (IsVersion-compatible_prefix w h long))
