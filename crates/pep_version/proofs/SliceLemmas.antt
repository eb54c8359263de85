-- Slices of a text, and what is read from the text in lower case.
use Rattle.std.proofs.Common.{◌≡◌, ◌≢◌, ◌<◌, ◌≤◌, ◌+◌, ◌==◌, ◌&&◌, ◌||◌, ℕ, Bool, true, false, List}
use Rattle.std.proofs.Common.{[], ◌∷◌, ◌++◌, drop, get_or, None, inl, inr, length, map, take}
use Rattle.std.proofs.Common.{append-nil, append_assoc, subst, suc, zero, refl, sym, ap, ◌∙◌, arith}
use Rattle.std.proofs.lemmas.Bool.{cases_Bool}
use Rattle.std.proofs.lemmas.Bool.Decides.{nat_tests}
use Rattle.std.proofs.lemmas.List.{drop_all, drop_more, map-append, take-append-drop, take_all}
use Rattle.std.proofs.lemmas.List.{take_more}
use Rattle.std.proofs.lemmas.List.Folds.{list_all-map}
use Rattle.std.specs.Char.{is_ascii_alphanumeric, is_ascii_digit, to_ascii_lowercase}
use Rattle.std.specs.List.{All, AllByRecursion, list_all, onto_first}
use Rattle.std.specs.Str.Parse.{digits_value}
use Rattle.pep_version.specs.Way.Slices.{lower}
use Rattle.pep_version.specs.Way.Reading.{behind, front, goes_on, release_behind, release_front}
use Rattle.pep_version.specs.Way.Reading.{starts_digit, stripped}
use Rattle.pep_version.specs.Spelling.{is_run, segment_of_run, separated_parts}
use Rattle.texts.specs.Bytes.{is_separator}
use Rattle.pep_version.specs.Version.{Segment, SegmentFits, number, is_word_byte, word}
use Rattle.texts.specs.Lists.{is_empty}
use Rattle.texts.proofs.Connectives.{and_first, and_second}
use Rattle.texts.proofs.SplitLemmas.{split-at, split-whole}
use Rattle.pep_version.proofs.Readers.{digits-append}

-- a text has no byte where it has none in lower case
pub no_byte : (xs : List ℕ) → is_empty (lower xs) ≡ (length xs == 0)
no_byte [] = refl
no_byte (x ∷ xs) = grind arith

digit-lower : (b : ℕ) → is_ascii_digit b ≡ true → to_ascii_lowercase b ≡ b
digit-lower b h = grind (arith, nat_tests)

no-digit-lower : (b : ℕ) → is_ascii_digit b ≡ false → is_ascii_digit (to_ascii_lowercase b) ≡ false
no-digit-lower b h = grind (arith, nat_tests)

pub digits-lower : (ds : List ℕ) → list_all is_ascii_digit ds ≡ true → lower ds ≡ ds
digits-lower [] h = refl
digits-lower (d ∷ ds) h =
    λ i. digit-lower d (and_first (is_ascii_digit d) (list_all is_ascii_digit ds) h) i
    ∷ digits-lower ds (and_second (is_ascii_digit d) (list_all is_ascii_digit ds) h) i

-- the digits at the front end at the first byte that is none
pub digits-until : (t : List ℕ) (i : ℕ) → list_all is_ascii_digit (take i t) ≡ true →
    starts_digit (lower (drop i t)) ≡ false
    → (take i t ≡ front (lower t)) × (lower (drop i t) ≡ behind (lower t))
digits-until t i all none =
    let whole : lower t ≡ take i t ++ lower (drop i t) =
    ap lower (sym (take-append-drop i t)) ∙ map-append to_ascii_lowercase (take i t) (drop i t)
    ∙ ap (λ (l : List ℕ). l ++ lower (drop i t)) (digits-lower (take i t) all) in
    let taken = digits-append (take i t) (lower (drop i t)) all none in
    (sym (ap front whole ∙ taken.0), sym (ap behind whole ∙ taken.1))

-- .. or with the text
pub digits-whole : (t : List ℕ) (i : ℕ) → length t ≤ i → list_all is_ascii_digit (take i t) ≡ true
    → (t ≡ front (lower t)) × (lower (drop (length t) t) ≡ behind (lower t))
digits-whole t i end all =
    let past = drop_all i t end in
    let same : drop (length t) t ≡ drop i t = drop_all (length t) t (omega arith) ∙ sym past in
    let none : starts_digit (lower (drop i t)) ≡ false =
    ap (λ (l : List ℕ). starts_digit (lower l)) past in
    let both = digits-until t i all none in
    (sym (take_all i t end) ∙ both.0, ap lower same ∙ both.1)

pub no-digit-at : (t : List ℕ) (i : ℕ) → i < length t → is_ascii_digit (get_or t i 0) ≡ false →
    starts_digit (lower (drop i t)) ≡ false
no-digit-at t i lt h =
    ap (λ (l : List ℕ). starts_digit (lower l)) (drop_more t i 0 lt)
    ∙ no-digit-lower (get_or t i 0) h

-- one letter of a word
pub letter-more : (letters t : List ℕ) (i : ℕ) (b : ℕ) (rest : List ℕ) → i < length letters →
    t ≡ b ∷ rest → get_or letters i 0 ≡ to_ascii_lowercase b
    → stripped (drop i letters) (lower t) ≡ stripped (drop (i + 1) letters) (lower rest)
letter-more letters t i b rest lt e same =
    let test : (get_or letters i 0 == to_ascii_lowercase b) ≡ true = grind arith in
    let at : stripped (get_or letters i 0 ∷ drop (i + 1) letters) (to_ascii_lowercase b
    ∷ lower rest) ≡ stripped (drop (i + 1) letters) (lower rest) = rw test refl in
    (λ j. stripped (drop_more letters i 0 lt j) (lower (e j))) ∙ at

pub letter-none : (letters t : List ℕ) (i : ℕ) → i < length letters → length t < 1 →
    None ≡ stripped (drop i letters) (lower t)
letter-none letters [] i lt h = sym (ap (λ (l : List ℕ). stripped l []) (drop_more letters i 0 lt))
letter-none letters (b ∷ rest) i lt h = absurd (omega arith)

pub letter-other : (letters t : List ℕ) (i : ℕ) → i < length letters → 1 ≤ length t →
    get_or letters i 0 ≢ to_ascii_lowercase (get_or t 0 0) →
    None ≡ stripped (drop i letters) (lower t)
letter-other letters [] i lt some h = absurd (omega arith)
letter-other letters (b ∷ rest) i lt some h =
    let test : (get_or letters i 0 == to_ascii_lowercase b) ≡ false = grind arith in
    let at : stripped (get_or letters i 0 ∷ drop (i + 1) letters) (to_ascii_lowercase b
    ∷ lower rest) ≡ None = rw test refl in
    sym (ap (λ (l : List ℕ). stripped l (lower (b ∷ rest))) (drop_more letters i 0 lt) ∙ at)

-- ---- the release

byte-lower : (b : ℕ) (s : Bool) → (is_ascii_digit (to_ascii_lowercase b)
    || ((to_ascii_lowercase b == 46) && s)) ≡ true → to_ascii_lowercase b ≡ b
byte-lower b s h = grind (arith, nat_tests)

front-goes-on : (b : ℕ) (rest : List ℕ) → goes_on (b ∷ rest) ≡ true →
    (release_front (b ∷ rest) ≡ b ∷ release_front rest)
    × (release_behind (b ∷ rest) ≡ release_behind rest)
front-goes-on b rest h = elim (cases_Bool (is_ascii_digit b)) [
  | inl digit ↦ (rw digit refl, rw digit refl)
  | inr other ↦ let dot : ((b == 46) && starts_digit rest) ≡ true =
      rw other at h in (rw (other, dot) refl, rw (other, dot) refl)
]

front-stops : (t : List ℕ) → goes_on t ≡ false → (release_front t ≡ []) × (release_behind t ≡ t)
front-stops [] h = (refl, refl)
front-stops (b ∷ rest) h = elim (cases_Bool (is_ascii_digit b)) [
  | inl digit ↦ cc (rw digit at h)
  | inr other ↦ let dot : ((b == 46) && starts_digit rest) ≡ false =
      rw other at h in (rw (other, dot) refl, rw (other, dot) refl)
]

-- the release read as far as i
pub record ReleaseUntil (t : List ℕ) (i : ℕ) : Type 0 where
  pub release : release_front (lower t) ≡ take i t ++ release_front (lower (drop i t))
  pub rest : release_behind (lower t) ≡ release_behind (lower (drop i t))

pub release-more : (t : List ℕ) (i : ℕ) → i < length t → ReleaseUntil t i →
    goes_on (lower (drop i t)) ≡ true → ReleaseUntil t (i + 1)
release-more t i lt u h =
    let b = get_or t i 0 in
    let left = drop (i + 1) t in
    let at : goes_on (lower (b ∷ left)) ≡ true =
    ap (λ (l : List ℕ). goes_on (lower l)) (sym (drop_more t i 0 lt)) ∙ h in
    let step = front-goes-on (to_ascii_lowercase b) (lower left) at in
    let same = byte-lower b (starts_digit (lower left)) at in
    record {
      release =
          u.release ∙ ap (λ (l : List ℕ). take i t ++ release_front (lower l)) (drop_more t i 0 lt)
          ∙ ap (λ (l : List ℕ). take i t ++ l) (step.0
          ∙ ap (λ (c : ℕ). c ∷ release_front (lower left)) same)
          ∙ sym (append_assoc (take i t) (b ∷ []) (release_front (lower left)))
          ∙ ap (λ (l : List ℕ). l ++ release_front (lower left)) (sym (take_more t i 0 lt));
      rest = u.rest ∙ ap (λ (l : List ℕ). release_behind (lower l)) (drop_more t i 0 lt) ∙ step.1;
    }

pub release-until : (t : List ℕ) (i : ℕ) → ReleaseUntil t i → goes_on (lower (drop i t)) ≡ false →
    (take i t ≡ release_front (lower t)) × (lower (drop i t) ≡ release_behind (lower t))
release-until t i u h =
    let stop = front-stops (lower (drop i t)) h in (
      sym (u.release ∙ ap (λ (l : List ℕ). take i t ++ l) stop.0 ∙ append-nil (take i t)),
      sym (u.rest ∙ stop.1),
    )

-- ---- the label

run-byte : (b : ℕ) → is_ascii_alphanumeric b ≡ is_word_byte (to_ascii_lowercase b)
run-byte b = grind (arith, nat_tests)

pub run_bytes : (run : List ℕ) → list_all is_ascii_alphanumeric run
    ≡ list_all is_word_byte (lower run)
run_bytes [] = refl
run_bytes (b ∷ rest) = λ i. run-byte b i && run_bytes rest i

separator-lower : (b : ℕ) → is_separator (to_ascii_lowercase b) ≡ is_separator b
separator-lower b = grind (arith, nat_tests)

onto-lower : (b : ℕ) (parts : List (List ℕ)) → onto_first (to_ascii_lowercase b) (map lower parts)
    ≡ map lower (onto_first b parts)
onto-lower b [] = refl
onto-lower b (part ∷ parts) = refl

pub parts-lower : (t : List ℕ) → separated_parts (lower t) ≡ map lower (separated_parts t)
parts-lower [] = refl
parts-lower (b ∷ rest) = elim (cases_Bool (is_separator b)) [
  | inl separates ↦ rw (separator-lower b, separates) (ap (λ (l : List (List ℕ)). []
      ∷ l) (parts-lower rest))
  | inr other ↦ rw (separator-lower b, other) (ap (onto_first (to_ascii_lowercase b))
      (parts-lower rest) ∙ onto-lower b (separated_parts rest))
]

pub label-lower : (t : List ℕ) → list_all is_run (separated_parts (lower t))
    ≡ list_all (λ part. is_run (lower part)) (separated_parts t)
label-lower t = ap (list_all is_run) (parts-lower t) ∙ list_all-map is_run lower (separated_parts t)

-- the first run of a label
pub run-at : (xs : List ℕ) (i : ℕ) → i < length xs → All (λ b. is_separator b ≡ false) (take i xs) →
    is_separator (get_or xs i 0) ≡ true
    → separated_parts (lower xs) ≡ lower (take i xs) ∷ separated_parts (lower (drop (i + 1) xs))
run-at xs i lt none here =
    parts-lower xs ∙ ap (map lower) (split-at is_separator xs i lt none here)
    ∙ ap (λ (l : List (List ℕ)). lower (take i xs) ∷ l) (sym (parts-lower (drop (i + 1) xs)))

pub run-whole : (xs : List ℕ) → All (λ b. is_separator b ≡ false) xs →
    separated_parts (lower xs) ≡ lower xs ∷ []
run-whole xs none = parts-lower xs ∙ ap (map lower) (split-whole is_separator xs none)

-- bytes of a run are ASCII, also in lower case
pub word-ascii : (b : ℕ) → is_word_byte b ≡ true → b < 128
word-ascii b h = grind (arith, nat_tests)

run-all : (run : List ℕ) → is_run run ≡ true → list_all is_word_byte run ≡ true
run-all [] h = cc
run-all (b ∷ rest) h = h

pub run-ascii : (run : List ℕ) (i : ℕ) → is_run (lower run) ≡ true → i < length run →
    to_ascii_lowercase (get_or run i 0) < 128
run-ascii run i h lt = all-ascii run i (run-all (lower run) h) lt
  where
    all-ascii : (xs : List ℕ) (k : ℕ) → list_all is_word_byte (lower xs) ≡ true → k < length xs →
        to_ascii_lowercase (get_or xs k 0) < 128
    all-ascii [] k h lt = absurd (omega arith)
    all-ascii (x ∷ xs) zero h lt =
        word-ascii (to_ascii_lowercase x) (and_first (is_word_byte (to_ascii_lowercase x))
        (list_all is_word_byte (lower xs)) h)
    all-ascii (x ∷ xs) (suc k) h lt =
        all-ascii xs k (and_second (is_word_byte (to_ascii_lowercase x))
        (list_all is_word_byte (lower xs)) h) (omega arith)

pub lower-more : (run : List ℕ) (i : ℕ) → i < length run →
    lower (take (i + 1) run) ≡ lower (take i run) ++ to_ascii_lowercase (get_or run i 0) ∷ []
lower-more run i lt =
    ap lower (take_more run i 0 lt) ∙ map-append to_ascii_lowercase (take i run) (get_or run i 0
    ∷ [])

-- digits are digits in lower case, and nothing else is
digit-same : (b : ℕ) → is_ascii_digit (to_ascii_lowercase b) ≡ is_ascii_digit b
digit-same b = grind (arith, nat_tests)

pub digits-same : (run : List ℕ) → list_all is_ascii_digit (lower run) ≡ list_all is_ascii_digit run
digits-same [] = refl
digits-same (b ∷ rest) = λ i. digit-same b i && digits-same rest i

pub run-of-digits : (run : List ℕ) → list_all is_ascii_digit run ≡ true →
    segment_of_run (lower run) ≡ number (digits_value 10 run)
run-of-digits run h = let same = digits-lower run h in rw same (rw h refl)

pub run-of-letters : (run : List ℕ) → list_all is_ascii_digit run ≡ false →
    segment_of_run (lower run) ≡ word (lower run)
run-of-letters run h = rw (digits-same run, h) refl

-- a segment of a list that fits
pub segment-fits : (front : List Segment) (s : Segment) (rest whole : List Segment) → front
    ++ s ∷ rest ≡ whole → AllByRecursion SegmentFits whole → SegmentFits s
segment-fits front s rest whole e fits =
    in_front front (subst (AllByRecursion SegmentFits) (sym e) fits)
  where
    in_front : (xs : List Segment) → AllByRecursion SegmentFits (xs ++ s ∷ rest) → SegmentFits s
    in_front [] h = h.0
    in_front (x ∷ xs) h = in_front xs h.1
