-- A cut is read back from its number.
use Rattle.std.proofs.Common.{◌≡◌, ◌<◌, ◌≤◌, ◌+◌, ◌*◌, ◌/◌, ◌^◌, ◌%◌, ◌==◌, ℕ, zero, suc, true, false, List, [], ◌∷◌, Option, Some, None, IfSome, get_or, length, refl, sym, ap, ◌∙◌, arith, subst}
use Rattle.std.proofs.lemmas.Cmp.{ranked}
use Rattle.std.proofs.lemmas.Nat.{div-mul-add, mod-mul-add}
use Rattle.std.specs.Ordering.{MatchOrdering, eq_by_cmp, is_eq, nat_cmp}
use Rattle.std.specs.Prelude.{nat_eq}
use Rattle.std.specs.declared.cmp.Ordering.{Ordering}
use Rattle.std.specs.declared.cmp.Ordering.TheVariants.{Less, Equal, Greater}
use Rattle.texts.specs.Lists.{is_empty}
use Rattle.pep_version.specs.Laws.{positive, with_first}
use Rattle.pep_version.proofs.PlaceLemmas.{suffixed}
use Rattle.pep_version.specs.Order.{place_of, pre_number, pre_number_of, short_release, stage, stage_of, with_suffixes, without_end_zeros}
use Rattle.std.specs.List.{AllByRecursion}
use Rattle.pep_version.specs.Version.{Fits, IsVersion, Version}
use Rattle.pep_version.specs.declared.parts.Phase.{Phase}
use Rattle.pep_version.specs.declared.parts.Phase.TheVariants.{Alpha, Beta, Rc}
use Rattle.specifiers.specs.Clause.{Prefix, prefix_of}
use Rattle.pep_clause.specs.Cut.{Cut, IsCut, before, after, past, end, cut_cmp, final_version}
use Rattle.pep_clause.proofs.Rows.{IsCut-before_place}
use Rattle.pep_clause.specs.OperatorTable.{before_place}
use Rattle.pep_clause.specs.PackedCut.{AreShortNumbers, HasPackedCut, IsPackedCut, IsShortRelease, IsShortSuffix, IsShortVersion, PackedCutsKeepOrder, cut_at, dev_at, dev_digit, digit_unit, end_word, four, four_word, front_of, is_past, last_digit, number_unit, packed_word, past_stage, post_at, post_digit, pre_at, release_alone, release_at, release_word, release_word_at, stage_at, suffixed_word, version_at, word_before, word_past}
use Rattle.pep_clause.proofs.PackedOrder.{AreDigits, packed-order, past-below, past-digits, stage_low, version-below, version-digits}

-- ---- digits

-- the digits of a word
record ReadsDigits (w x s p q e : ℕ) : Type 0 where
  pub release : release_word_at w ≡ x
  pub stage : stage_at w ≡ s
  pub pre : front_of (front_of w) % digit_unit ≡ p
  pub post : front_of w % digit_unit ≡ q
  pub dev : w % digit_unit ≡ e

digits-read : (x s p q e : ℕ) → AreDigits s p q e → ReadsDigits (suffixed_word x s p q e) x s p q e
digits-read x s p q e h =
    let u = digit_unit in
    let one : front_of (suffixed_word x s p q e) ≡ ((x * u + s) * u + p) * u + q = div-mul-add (((x * u + s) * u + p) * u + q) digit_unit e h.dev in
    let two : front_of (front_of (suffixed_word x s p q e)) ≡ (x * u + s) * u + p = ap front_of one ∙ div-mul-add ((x * u + s) * u + p) digit_unit q h.post in
    let three : front_of (front_of (front_of (suffixed_word x s p q e))) ≡ x * u + s = ap front_of two ∙ div-mul-add (x * u + s) digit_unit p h.pre in record {
      release = ap front_of three ∙ div-mul-add x digit_unit s h.stage;
      stage = ap (λ n. n % digit_unit) three ∙ mod-mul-add x digit_unit s h.stage;
      pre = ap (λ n. n % digit_unit) two ∙ mod-mul-add (x * u + s) digit_unit p h.pre;
      post = ap (λ n. n % digit_unit) one ∙ mod-mul-add ((x * u + s) * u + p) digit_unit q h.post;
      dev = mod-mul-add (((x * u + s) * u + p) * u + q) digit_unit e h.dev;
    }

-- ---- releases

four-read : (a b c d : ℕ) → b < number_unit → c < number_unit → d < number_unit →
    release_at (four_word a b c d) ≡ short_release (a ∷ b ∷ c ∷ d ∷ [])
four-read a b c d hb hc hd =
    let u = number_unit in
    let w = four_word a b c d in
    let one : w / u ≡ (a * u + b) * u + c = div-mul-add ((a * u + b) * u + c) number_unit d hd in
    let two : w / u / u ≡ a * u + b = ap (λ n. n / number_unit) one ∙ div-mul-add (a * u + b) number_unit c hc in
    let three : w / u / u / u ≡ a = ap (λ n. n / number_unit) two ∙ div-mul-add a number_unit b hb in
    let first : w % u ≡ d = mod-mul-add ((a * u + b) * u + c) number_unit d hd in
    let second : w / u % u ≡ c = ap (λ n. n % number_unit) one ∙ mod-mul-add (a * u + b) number_unit c hc in
    let third : w / u / u % u ≡ b = ap (λ n. n % number_unit) two ∙ mod-mul-add a number_unit b hb in
    λ i. short_release (three i ∷ third i ∷ second i ∷ first i ∷ [])

pub short-four : (r : List ℕ) → 0 < length r → length r ≤ 4 → short_release (four r) ≡ short_release r
short-four [] some h = absurd (omega arith)
short-four (a ∷ []) some h = refl
short-four (a ∷ b ∷ []) some h = refl
short-four (a ∷ b ∷ c ∷ []) some h = refl
short-four (a ∷ b ∷ c ∷ d ∷ []) some h = refl
short-four (a ∷ b ∷ c ∷ d ∷ e ∷ rest) some h = absurd (omega (arith, h))

pub release-read : {m : ℕ} (r : List ℕ) → IsShortRelease m r → 0 < length r → release_at (release_word r) ≡ short_release r
release-read r h some = four-read _ _ _ _ h.numbers.second h.numbers.third h.numbers.fourth ∙ short-four r some h.few

-- ---- suffixes

pre-read : (pre : Option (Phase × ℕ)) (post dev : Option ℕ) → pre_at (stage_of pre post dev) (pre_number_of pre) ≡ pre
pre-read (Some (Alpha, n)) post dev = refl
pre-read (Some (Beta, n)) post dev = refl
pre-read (Some (Rc, n)) post dev = refl
pre-read None None None = refl
pre-read None None (Some n) = refl
pre-read None (Some n) dev = refl

post-read : (post : Option ℕ) → post_at (post_digit post) ≡ post
post-read None = refl
post-read (Some n) = grind arith

dev-read : (dev : Option ℕ) → IfSome dev (λ n. n < last_digit) → dev_at (dev_digit dev) ≡ dev
dev-read None h = refl
dev-read (Some n) h = grind (arith, h)

other_than : (m n : ℕ) → m < n → (m == n) ≡ false
other_than m n h = grind (arith, h)

-- ---- cuts

version-read : (v : Version) → IsShortVersion v → 0 < length v.release → version_at (word_before v) ≡ place_of v
version-read v h some =
    let d = digits-read (release_word v.release) _ _ _ _ (version-digits v h.suffix) in
    λ i. record {
      epoch = sym h.release.epoch i;
      release = (ap release_at d.release ∙ release-read v.release h.release some) i;
      pre = ((λ j. pre_at (d.stage j) (d.pre j)) ∙ pre-read v.pre v.post v.dev) i;
      post = (ap post_at d.post ∙ post-read v.post) i;
      dev = (ap dev_at d.dev ∙ dev-read v.dev h.suffix.dev) i;
      label = sym h.label i;
    }

-- before a version that is short
pub before-read : (v : Version) → IsShortVersion v → 0 < length v.release → cut_at (word_before v) ≡ before_place v
before-read v h some =
    let no_end = other_than (word_before v) end_word (version-below v h) in
    let d = digits-read (release_word v.release) _ _ _ _ (version-digits v h.suffix) in
    let no_past : is_past (word_before v) ≡ false =
    ap (λ n. n == past_stage) d.stage ∙ other_than (stage v) past_stage (omega (arith, stage_low v.pre v.post v.dev)) in
    rw (no_end, no_past) (ap before (version-read v h some))

-- past a release that is short
abbrev short_prefix : List ℕ → Prefix
short_prefix r = record { epoch = 0; release = short_release r }

final-read : {m : ℕ} (r : List ℕ) → IsShortRelease m r → 0 < length r → version_at (word_past r) ≡ final_version (short_prefix r)
final-read r h some =
    let d = digits-read (release_word r) _ _ _ _ past-digits in
    λ i. record {
      epoch = 0;
      release = (ap release_at d.release ∙ release-read r h some) i;
      pre = pre_at (d.stage i) (d.pre i);
      post = post_at (d.post i);
      dev = dev_at (d.dev i);
      label = [];
    }

is_past-word : (r : List ℕ) → is_past (word_past r) ≡ true
is_past-word r = ap (λ n. n == past_stage) (digits-read (release_word r) _ _ _ _ past-digits).stage

pub past-read : {m : ℕ} (r : List ℕ) → IsShortRelease m r → 0 < length r → cut_at (word_past r) ≡ past (short_prefix r)
past-read r h some =
    let no_end = other_than (word_past r) end_word (past-below r h) in
    let is_past = is_past-word r in
    rw (no_end, is_past) (ap (λ v. past (prefix_of v)) (final-read r h some))

-- ---- the one spelling of a release

first-number : (n : ℕ) (ys : List ℕ) (i : ℕ) → get_or (with_first n ys) i 0 ≡ get_or (n ∷ ys) i 0
first-number zero [] zero = refl
first-number zero [] (suc i) = refl
first-number zero (y ∷ ys) i = refl
first-number (suc n) ys i = rw (positive n) refl

number-kept : (xs : List ℕ) (i : ℕ) → get_or (without_end_zeros xs) i 0 ≡ get_or xs i 0
number-kept [] i = refl
number-kept (n ∷ rest) zero = first-number n (without_end_zeros rest) zero
number-kept (n ∷ rest) (suc i) = first-number n (without_end_zeros rest) (suc i) ∙ number-kept rest i

first-length : (n : ℕ) (ys : List ℕ) → length (with_first n ys) ≤ length ys + 1
first-length zero [] = omega arith
first-length zero (y ∷ ys) = omega arith
first-length (suc n) ys = rw (positive n) (omega arith)

zeros-length : (xs : List ℕ) → length (without_end_zeros xs) ≤ length xs
zeros-length [] = omega arith
zeros-length (n ∷ rest) = omega (arith, first-length n (without_end_zeros rest), zeros-length rest)

short-number : (xs : List ℕ) (i : ℕ) → get_or (short_release xs) i 0 ≡ get_or xs i 0
short-number [] i = refl
short-number (n ∷ rest) zero = refl
short-number (n ∷ rest) (suc i) = number-kept rest i

short-length : (xs : List ℕ) → length (short_release xs) ≤ length xs
short-length [] = omega arith
short-length (n ∷ rest) = omega (arith, zeros-length rest)

short-word : (r : List ℕ) → release_word (short_release r) ≡ release_word r
short-word r = λ i. four_word (short-number r 0 i) (short-number r 1 i) (short-number r 2 i) (short-number r 3 i)

short-is_short : {m : ℕ} (r : List ℕ) → IsShortRelease m r → IsShortRelease m (short_release r)
short-is_short r h = record {
  epoch = h.epoch;
  few = omega (arith, short-length r, h.few);
  numbers = record {
    first = subst (λ n. n < number_unit) (sym (short-number r 0)) h.numbers.first;
    second = subst (λ n. n < number_unit) (sym (short-number r 1)) h.numbers.second;
    third = subst (λ n. n < number_unit) (sym (short-number r 2)) h.numbers.third;
    fourth = subst (λ n. n < number_unit) (sym (short-number r 3)) h.numbers.fourth;
  };
}

-- ---- packed cuts

pre_fits : (p : Option (Phase × ℕ)) → pre_number_of p < digit_unit → IfSome p (λ x. Fits x.1)
pre_fits None h = tt
pre_fits (Some x) h = omega (arith, h)

post_fits : (q : Option ℕ) → post_digit q < digit_unit → IfSome q Fits
post_fits None h = tt
post_fits (Some n) h = omega (arith, h)

dev_fits : (d : Option ℕ) → IfSome d (λ n. n < last_digit) → IfSome d Fits
dev_fits None h = tt
dev_fits (Some n) h = omega (arith, h)

-- a version with other suffixes, which are short
pub short-suffixed : (v : Version) (p : Option (Phase × ℕ)) (q d : Option ℕ) → IsVersion v → IsShortSuffix p q d
    → IsVersion (with_suffixes v p q d)
short-suffixed v p q d is h = suffixed v p q d is (pre_fits p h.pre) (post_fits q h.post) (dev_fits d h.dev)

pub none_in : {A : Type 0} (xs : List A) → is_empty xs ≡ true → xs ≡ []
none_in [] e = refl
none_in (x ∷ xs) e = cc e

-- before a version that is short
pub packed-before : (v : Version) → IsVersion v → IsShortVersion v → IsPackedCut (word_before v)
packed-before v is h =
    let read = before-read v h is.release in record {
      short = subst HasPackedCut (sym read) (record { release = short-is_short v.release h.release; suffix = h.suffix; label = h.label });
      spelled = subst IsCut (sym read) (IsCut-before_place v is);
      word = ap packed_word read ∙ (λ i. suffixed_word (short-word v.release i) (stage v) (pre_number v) (post_digit v.post) (dev_digit v.dev));
    }

short-fit : (r : List ℕ) → length r ≤ 4 → AreShortNumbers r → AllByRecursion Fits r
short-fit [] few h = tt
short-fit (a ∷ []) few h = (omega (arith, h.first), tt)
short-fit (a ∷ b ∷ []) few h = (omega (arith, h.first), (omega (arith, h.second), tt))
short-fit (a ∷ b ∷ c ∷ []) few h = (omega (arith, h.first), (omega (arith, h.second), (omega (arith, h.third), tt)))
short-fit (a ∷ b ∷ c ∷ d ∷ []) few h =
    (omega (arith, h.first), (omega (arith, h.second), (omega (arith, h.third), (omega (arith, h.fourth), tt))))
short-fit (a ∷ b ∷ c ∷ d ∷ e ∷ rest) few h = absurd (omega (arith, few))

-- a release that is short makes a version
pub release-version : (r : List ℕ) (p : Option (Phase × ℕ)) (q d : Option ℕ) → 0 < length r →
    IsShortVersion (with_suffixes (release_alone r) p q d) → IsVersion (with_suffixes (release_alone r) p q d)
release-version r p q d some h = record {
  release = some;
  label = tt;
  numbers = record {
    epoch = omega arith;
    release = short-fit r h.release.few h.release.numbers;
    pre = pre_fits p h.suffix.pre;
    post = post_fits q h.suffix.post;
    dev = dev_fits d h.suffix.dev;
    label = tt;
  };
}

-- ---- the law

packed-read_back : (c : Cut) → HasPackedCut c → IsCut c → cut_at (packed_word c) ≡ c
packed-read_back (before v) h is = before-read v h is.0.release ∙ ap before is.1
packed-read_back (after v) h is = absurd h
packed-read_back (past r) h is =
    past-read r.release h is.0.release ∙ (λ i. past (record { epoch = sym h.epoch i; release = is.1 i }))
packed-read_back end h is = refl

packed-fits : (c : Cut) → HasPackedCut c → packed_word c < 2 ^ 128
packed-fits (before v) h = omega (arith, version-below v h)
packed-fits (after v) h = absurd h
packed-fits (past r) h = omega (arith, past-below r.release h)
packed-fits end h = omega arith

pub packed_cuts_keep_order : PackedCutsKeepOrder
packed_cuts_keep_order = record { fits = packed-fits; order = packed-order; reads_back = packed-read_back }

-- ---- the order of words

pub words-order : (w x : ℕ) → IsPackedCut w → IsPackedCut x → nat_cmp w x ≡ cut_cmp (cut_at w) (cut_at x)
words-order w x p q =
    (λ i. nat_cmp (sym p.word i) (sym q.word i)) ∙ packed-order (cut_at w) (cut_at x) p.short q.short

same-word : (m n : ℕ) → nat_eq m n ≡ is_eq (nat_cmp m n)
same-word m n = by (nat_cmp m n) (ranked m n _ refl)
  where
    by : (r : Ordering) → MatchOrdering r (m < n) (m ≡ n) (n < m) → nat_eq m n ≡ is_eq r
    by Less l = grind (arith, l)
    by Greater l = grind (arith, l)
    by Equal l = rw l (grind arith)

pub words-same : (w x : ℕ) → IsPackedCut w → IsPackedCut x → nat_eq w x ≡ eq_by_cmp cut_cmp (cut_at w) (cut_at x)
words-same w x p q = same-word w x ∙ ap is_eq (words-order w x p q)
