-- The normal text of a version is a spelling of it.
use Rattle.std.proofs.Common.{◌≡◌, ◌<◌, ◌==◌, ℕ, Bool, true, false, List, [], ◌∷◌, ◌++◌, length}
use Rattle.std.proofs.Common.{map, Option, Some, None, codes, decimal, inl, inr, append-nil}
use Rattle.std.proofs.Common.{append_assoc, suc, zero, refl, sym, ap, ◌∙◌, arith}
use Rattle.std.proofs.lemmas.Bool.{cases_Bool}
use Rattle.std.proofs.lemmas.Bool.Decides.{nat_tests}
use Rattle.std.proofs.lemmas.Fmt.{decimal_is_IsNumeral}
use Rattle.std.proofs.lemmas.List.Elements.{All-from_recursion}
use Rattle.std.proofs.lemmas.List.Folds.{list_all-append}
use Rattle.std.proofs.lemmas.List.Splits.{slice_split_at, slice_split_none}
use Rattle.std.specs.Char.{digit_value, is_ascii_digit, is_ascii_lowercase, to_ascii_lowercase}
use Rattle.std.specs.List.{AllByRecursion, join_with_byte, list_all, list_any, slice_split}
use Rattle.std.specs.Option.{IfSome}
use Rattle.std.specs.Str.{str_to_ascii_lowercase}
use Rattle.std.specs.Str.Parse.{AllDigits, digits_value}
use Rattle.pep_version.specs.declared.parts.Phase.{Phase}
use Rattle.pep_version.specs.declared.parts.Phase.TheVariants.{Alpha, Beta, Rc}
use Rattle.pep_version.specs.Spelling.{DevSpelling, EpochSpelling, IsOneOf, IsOptionalSeparator}
use Rattle.pep_version.specs.Spelling.{LabelSpelling, NumberSpelling, OptionalNumberSpelling}
use Rattle.pep_version.specs.Spelling.{PostSpelling, PreSpelling, ReleaseSpelling, Spells}
use Rattle.pep_version.specs.Spelling.{WordAndNumber, dev_words, dotted_parts, is_number, is_run}
use Rattle.pep_version.specs.Spelling.{post_words, pre_words, segment_of_run, separated_parts}
use Rattle.texts.specs.Space.{trimmed, without_leading_space, without_trailing_space}
use Rattle.texts.specs.Bytes.{is_separator, is_white_space}
use Rattle.pep_version.specs.Text.{dev_text, epoch_text, is_text_byte, label_text, normal_text}
use Rattle.pep_version.specs.Text.{phase_text, post_text, pre_text, release_text, segment_text}
use Rattle.pep_version.specs.Version.{Fits, IsSegment, IsVersion, Segment, SegmentFits, number}
use Rattle.pep_version.specs.Version.{Version, is_word_byte, word}
use Rattle.texts.specs.Lists.{is_empty}
use Rattle.texts.proofs.Connectives.{and-false, and_first, and_second}

-- ---- numbers

value-digit : (c : ℕ) → digit_value c < 10 → is_ascii_digit c ≡ true
value-digit c h = grind (arith, nat_tests)

all-digits : (ds : List ℕ) → AllDigits 10 ds → list_all is_ascii_digit ds ≡ true
all-digits [] h = refl
all-digits (c ∷ cs) h = rw (value-digit c h.0, all-digits cs h.1) refl

some-digits : (ds : List ℕ) → 0 < length ds → list_all is_ascii_digit ds ≡ true →
    is_number ds ≡ true
some-digits [] some h = absurd (omega arith)
some-digits (c ∷ cs) some h = h

decimal-digits : (n : ℕ) → Fits n → list_all is_ascii_digit (decimal n) ≡ true
decimal-digits n fits = all-digits (decimal n) (decimal_is_IsNumeral n fits).0.1

decimal-number : (n : ℕ) → Fits n → is_number (decimal n) ≡ true
decimal-number n fits =
    some-digits (decimal n) (decimal_is_IsNumeral n fits).0.0 (decimal-digits n fits)

decimal-spells : (n : ℕ) → Fits n → NumberSpelling (decimal n) n
decimal-spells n fits = (decimal-number n fits, sym (decimal_is_IsNumeral n fits).1)

optional-spells : (digits : List ℕ) (n : ℕ) → NumberSpelling digits n →
    OptionalNumberSpelling digits n
optional-spells [] n s = cc
optional-spells (c ∷ cs) n s = s

-- ---- parts of a text

pub list_all-weaker : (p q : ℕ → Bool) → ((b : ℕ) → p b ≡ true → q b ≡ true) → (xs : List ℕ) →
    list_all p xs ≡ true → list_all q xs ≡ true
list_all-weaker p q w [] h = refl
list_all-weaker p q w (x ∷ xs) h =
    rw (
      w x (and_first (p x) (list_all p xs) h),
      list_all-weaker p q w xs (and_second (p x) (list_all p xs) h),
    ) refl

none-pass : (p q : ℕ → Bool) → ((b : ℕ) → p b ≡ true → q b ≡ false) → (xs : List ℕ) →
    list_all p xs ≡ true → AllByRecursion (λ b. q b ≡ false) xs
none-pass p q w [] h = tt
none-pass p q w (x ∷ xs) h = (
  w x (and_first (p x) (list_all p xs) h),
  none-pass p q w xs (and_second (p x) (list_all p xs) h),
)

-- the parts of a text that was joined of parts
join-split : (p : ℕ → Bool) (c : ℕ) (parts : List (List ℕ)) → p c ≡ true → 0 < length parts →
    AllByRecursion (AllByRecursion (λ b. p b ≡ false)) parts
    → slice_split p (join_with_byte c parts) ≡ parts
join-split p c [] at some h = absurd (omega arith)
join-split p c (x ∷ []) at some h = slice_split_none p x (All-from_recursion _ x h.0)
join-split p c (x ∷ y ∷ xs) at some h =
    slice_split_at p x c (join_with_byte c (y ∷ xs)) (All-from_recursion _ x h.0) at
    ∙ ap (λ (l : List (List ℕ)). x ∷ l) (join-split p c (y ∷ xs) at (omega arith) h.1)

-- ---- bytes that stay as they are

byte-white : (b : ℕ) → is_text_byte b ≡ true → is_white_space b ≡ false
byte-white b h = grind (arith, nat_tests)

byte-lower : (b : ℕ) → is_text_byte b ≡ true → to_ascii_lowercase b ≡ b
byte-lower b h = grind (arith, nat_tests)

plain-front : (xs : List ℕ) → list_all is_text_byte xs ≡ true → without_leading_space xs ≡ xs
plain-front [] h = refl
plain-front (x ∷ xs) h =
    rw (byte-white x (and_first (is_text_byte x) (list_all is_text_byte xs) h)) refl

plain-end : (xs : List ℕ) → list_all is_text_byte xs ≡ true → without_trailing_space xs ≡ xs
plain-end [] h = refl
plain-end (x ∷ xs) h =
    let more = plain-end xs (and_second (is_text_byte x) (list_all is_text_byte xs) h) in
    rw (byte-white x (and_first (is_text_byte x) (list_all is_text_byte xs) h))
    (ap (λ (l : List ℕ). x ∷ l) more)

plain-lower : (xs : List ℕ) → list_all is_text_byte xs ≡ true → str_to_ascii_lowercase xs ≡ xs
plain-lower [] h = refl
plain-lower (x ∷ xs) h =
    let same : to_ascii_lowercase x ≡ x =
    byte-lower x (and_first (is_text_byte x) (list_all is_text_byte xs) h) in
    let more = plain-lower xs (and_second (is_text_byte x) (list_all is_text_byte xs) h) in
    λ i. same i ∷ more i

pub plain-trimmed : (xs : List ℕ) → list_all is_text_byte xs ≡ true → trimmed xs ≡ xs
plain-trimmed xs h = ap without_trailing_space (plain-front xs h) ∙ plain-end xs h

plain-append : (xs ys : List ℕ) → list_all is_text_byte xs ≡ true →
    list_all is_text_byte ys ≡ true → list_all is_text_byte (xs ++ ys) ≡ true
plain-append xs ys p q = rw (list_all-append is_text_byte xs ys, p, q) refl

digit-plain : (b : ℕ) → is_ascii_digit b ≡ true → is_text_byte b ≡ true
digit-plain b h = grind (arith, nat_tests)

word-plain : (b : ℕ) → is_word_byte b ≡ true → is_text_byte b ≡ true
word-plain b h = grind (arith, nat_tests)

digits-plain : (xs : List ℕ) → list_all is_ascii_digit xs ≡ true → list_all is_text_byte xs ≡ true
digits-plain = list_all-weaker is_ascii_digit is_text_byte digit-plain

decimal-plain : (n : ℕ) → Fits n → list_all is_text_byte (decimal n) ≡ true
decimal-plain n fits = digits-plain (decimal n) (decimal-digits n fits)

join-plain : (parts : List (List ℕ)) → AllByRecursion (λ part. list_all is_text_byte part
    ≡ true) parts → list_all is_text_byte (join_with_byte 46 parts) ≡ true
join-plain [] h = refl
join-plain (x ∷ []) h = h.0
join-plain (x ∷ y ∷ xs) h =
    plain-append x (46 ∷ join_with_byte 46 (y ∷ xs)) h.0 (join-plain (y ∷ xs) h.1)

-- ---- the release

digit-no-dot : (b : ℕ) → is_ascii_digit b ≡ true → (b == 46) ≡ false
digit-no-dot b h = grind arith

numbers-apart : (release : List ℕ) → AllByRecursion Fits release →
    AllByRecursion (AllByRecursion (λ b. (b == 46) ≡ false)) (map decimal release)
numbers-apart [] h = tt
numbers-apart (n ∷ rest) h = (
  none-pass is_ascii_digit (λ b. b == 46) digit-no-dot (decimal n) (decimal-digits n h.0),
  numbers-apart rest h.1,
)

numbers-are : (release : List ℕ) → AllByRecursion Fits release →
    list_all is_number (map decimal release) ≡ true
numbers-are [] h = refl
numbers-are (n ∷ rest) h = rw (decimal-number n h.0, numbers-are rest h.1) refl

numbers-worth : (release : List ℕ) → AllByRecursion Fits release →
    release ≡ map (digits_value 10) (map decimal release)
numbers-worth [] h = refl
numbers-worth (n ∷ rest) h = λ i. (decimal-spells n h.0).1 i ∷ numbers-worth rest h.1 i

numbers-plain : (release : List ℕ) → AllByRecursion Fits release →
    AllByRecursion (λ part. list_all is_text_byte part ≡ true) (map decimal release)
numbers-plain [] h = tt
numbers-plain (n ∷ rest) h = (decimal-plain n h.0, numbers-plain rest h.1)

some-map : {A B : Type 0} (f : A → B) (xs : List A) → 0 < length xs → 0 < length (map f xs)
some-map f [] h = h
some-map f (x ∷ xs) h = omega arith

release-spells : (release : List ℕ) → 0 < length release → AllByRecursion Fits release →
    ReleaseSpelling (release_text release) release
release-spells release some fits =
    let parts : dotted_parts (release_text release) ≡ map decimal release =
    join-split (λ b. b == 46) 46 (map decimal release) refl (some-map decimal release some)
    (numbers-apart release fits) in
    rw parts (numbers-are release fits, numbers-worth release fits)

release-plain : (release : List ℕ) → AllByRecursion Fits release →
    list_all is_text_byte (release_text release) ≡ true
release-plain release fits = join-plain (map decimal release) (numbers-plain release fits)

-- ---- the epoch

not-zero : (n : ℕ) → (suc n == 0) ≡ false
not-zero n = grind arith

epoch-spells : (n : ℕ) → Fits n → EpochSpelling (epoch_text n) n
epoch-spells zero fits = inl (refl, refl)
epoch-spells (suc n) fits =
    rw (not-zero n) (inr (decimal (suc n), refl, decimal-spells (suc n) fits))

epoch-plain : (n : ℕ) → Fits n → list_all is_text_byte (epoch_text n) ≡ true
epoch-plain zero fits = refl
epoch-plain (suc n) fits =
    rw (not-zero n) (plain-append (decimal (suc n)) (codes "!") (decimal-plain (suc n) fits) refl)

-- ---- the parts of a word and a number

phase-word : (p : Phase) → IsOneOf (pre_words p) (phase_text p)
phase-word Alpha = inl refl
phase-word Beta = inl refl
phase-word Rc = inl refl

phase-plain : (p : Phase) → list_all is_text_byte (phase_text p) ≡ true
phase-plain Alpha = refl
phase-plain Beta = refl
phase-plain Rc = refl

-- a word and a number, with or without a separator before them
numbered-spells : (words : List (List ℕ)) (before letters : List ℕ) (n : ℕ) →
    IsOptionalSeparator before → IsOneOf words letters → Fits n
    → WordAndNumber words (before ++ (letters ++ decimal n)) n
numbered-spells words before letters n separator one fits = record {
  before = before;
  letters = letters;
  after = [];
  digits = decimal n;
  pieces = ap (λ (t : List ℕ). before ++ (letters ++ t)) (sym (append-nil (decimal n)));
  before_is = separator;
  letters_is = one;
  after_is = tt;
  digits_is = optional-spells (decimal n) n (decimal-spells n fits);
}

pre-spells : (pre : Option (Phase × ℕ)) → IfSome pre (λ p. Fits p.1) →
    PreSpelling (pre_text pre) pre
pre-spells None fits = refl
pre-spells (Some p) fits =
    numbered-spells (pre_words p.0) [] (phase_text p.0) p.1 tt (phase-word p.0) fits

pre-plain : (pre : Option (Phase × ℕ)) → IfSome pre (λ p. Fits p.1) →
    list_all is_text_byte (pre_text pre) ≡ true
pre-plain None fits = refl
pre-plain (Some p) fits =
    plain-append (phase_text p.0) (decimal p.1) (phase-plain p.0) (decimal-plain p.1 fits)

post-spells : (pre : List ℕ) (post : Option ℕ) → IfSome post Fits →
    PostSpelling pre (post_text post) post
post-spells pre None fits = refl
post-spells pre (Some n) fits =
    inl (numbered-spells post_words (codes ".") (codes "post") n refl (inl refl) fits)

post-plain : (post : Option ℕ) → IfSome post Fits → list_all is_text_byte (post_text post) ≡ true
post-plain None fits = refl
post-plain (Some n) fits = plain-append (codes ".post") (decimal n) refl (decimal-plain n fits)

dev-spells : (dev : Option ℕ) → IfSome dev Fits → DevSpelling (dev_text dev) dev
dev-spells None fits = refl
dev-spells (Some n) fits =
    numbered-spells dev_words (codes ".") (codes "dev") n refl (inl refl) fits

dev-plain : (dev : Option ℕ) → IfSome dev Fits → list_all is_text_byte (dev_text dev) ≡ true
dev-plain None fits = refl
dev-plain (Some n) fits = plain-append (codes ".dev") (decimal n) refl (decimal-plain n fits)

-- ---- the label

digit-word : (b : ℕ) → is_ascii_digit b ≡ true → is_word_byte b ≡ true
digit-word b h = grind arith

word-no-separator : (b : ℕ) → is_word_byte b ≡ true → is_separator b ≡ false
word-no-separator b h = grind arith

segment-bytes : (s : Segment) → IsSegment s → SegmentFits s →
    list_all is_word_byte (segment_text s) ≡ true
segment-bytes (number n) is fits =
    list_all-weaker is_ascii_digit is_word_byte digit-word (decimal n) (decimal-digits n fits)
segment-bytes (word letters) is fits =
    and_first (list_all is_word_byte letters) (list_any is_ascii_lowercase letters) is

some-run : (run : List ℕ) → is_empty run ≡ false → list_all is_word_byte run ≡ true →
    is_run run ≡ true
some-run [] e h = cc
some-run (b ∷ rest) e h = h

number-some : (digits : List ℕ) → is_number digits ≡ true → is_empty digits ≡ false
number-some [] h = cc
number-some (b ∷ rest) h = refl

letters-some : (letters : List ℕ) → list_any is_ascii_lowercase letters ≡ true →
    is_empty letters ≡ false
letters-some [] h = cc
letters-some (b ∷ rest) h = refl

segment-run : (s : Segment) → IsSegment s → SegmentFits s → is_run (segment_text s) ≡ true
segment-run (number n) is fits =
    some-run (decimal n) (number-some (decimal n) (decimal-number n fits))
    (segment-bytes (number n) is fits)
segment-run (word letters) is fits =
    some-run letters (letters-some letters (and_second (list_all is_word_byte letters)
    (list_any is_ascii_lowercase letters) is)) (segment-bytes (word letters) is fits)

letter-no-digit : (b : ℕ) → is_ascii_lowercase b ≡ true → is_ascii_digit b ≡ false
letter-no-digit b h = grind arith

not-digits : (letters : List ℕ) → list_any is_ascii_lowercase letters ≡ true →
    list_all is_ascii_digit letters ≡ false
not-digits [] h = cc
not-digits (b ∷ rest) h = elim (cases_Bool (is_ascii_lowercase b)) [
  | inl letter ↦ rw (letter-no-digit b letter) refl
  | inr other ↦ let more = not-digits rest (rw other at h) in rw more (and-false (is_ascii_digit b))
]

segment-read : (s : Segment) → IsSegment s → SegmentFits s → s ≡ segment_of_run (segment_text s)
segment-read (number n) is fits =
    let digits = decimal-digits n fits in rw digits (ap number (decimal-spells n fits).1)
segment-read (word letters) is fits =
    let other = not-digits letters (and_second (list_all is_word_byte letters)
    (list_any is_ascii_lowercase letters) is) in rw other refl

segments-apart : (label : List Segment) → AllByRecursion IsSegment label →
    AllByRecursion SegmentFits label → AllByRecursion (AllByRecursion (λ b. is_separator b ≡ false))
    (map segment_text label)
segments-apart [] is fits = tt
segments-apart (s ∷ rest) is fits = (
  none-pass is_word_byte is_separator word-no-separator (segment_text s)
      (segment-bytes s is.0 fits.0),
  segments-apart rest is.1 fits.1,
)

segments-runs : (label : List Segment) → AllByRecursion IsSegment label →
    AllByRecursion SegmentFits label → list_all is_run (map segment_text label) ≡ true
segments-runs [] is fits = refl
segments-runs (s ∷ rest) is fits =
    rw (segment-run s is.0 fits.0, segments-runs rest is.1 fits.1) refl

segments-read : (label : List Segment) → AllByRecursion IsSegment label →
    AllByRecursion SegmentFits label → label ≡ map segment_of_run (map segment_text label)
segments-read [] is fits = refl
segments-read (s ∷ rest) is fits =
    λ i. segment-read s is.0 fits.0 i ∷ segments-read rest is.1 fits.1 i

segments-plain : (label : List Segment) → AllByRecursion IsSegment label →
    AllByRecursion SegmentFits label → AllByRecursion (λ part. list_all is_text_byte part
    ≡ true) (map segment_text label)
segments-plain [] is fits = tt
segments-plain (s ∷ rest) is fits = (
  list_all-weaker is_word_byte is_text_byte word-plain (segment_text s)
      (segment-bytes s is.0 fits.0),
  segments-plain rest is.1 fits.1,
)

label-spells : (label : List Segment) → AllByRecursion IsSegment label →
    AllByRecursion SegmentFits label → LabelSpelling (label_text label) label
label-spells [] is fits = refl
label-spells (s ∷ rest) is fits =
    let parts : separated_parts (join_with_byte 46 (map segment_text (s ∷ rest)))
    ≡ map segment_text (s ∷ rest) =
    join-split is_separator 46 (map segment_text (s ∷ rest)) refl (omega arith)
    (segments-apart (s ∷ rest) is fits) in (
      refl,
      ap (list_all is_run) parts ∙ segments-runs (s ∷ rest) is fits,
      segments-read (s ∷ rest) is fits ∙ ap (map segment_of_run) (sym parts),
    )

label-plain : (label : List Segment) → AllByRecursion IsSegment label →
    AllByRecursion SegmentFits label → list_all is_text_byte (label_text label) ≡ true
label-plain [] is fits = refl
label-plain (s ∷ rest) is fits =
    plain-append (codes "+") (join_with_byte 46 (map segment_text (s ∷ rest))) refl
    (join-plain (map segment_text (s ∷ rest)) (segments-plain (s ∷ rest) is fits))

-- ---- the whole

regroup : (e r p o d l : List ℕ) → e ++ r ++ p ++ o ++ d ++ l ≡ e
    ++ (r ++ (p ++ (o ++ (d ++ (l ++ [])))))
regroup e r p o d l = simp (append_assoc, append-nil)

six-plain : (e r p o d l : List ℕ) → list_all is_text_byte e ≡ true →
    list_all is_text_byte r ≡ true → list_all is_text_byte p ≡ true
    → list_all is_text_byte o ≡ true → list_all is_text_byte d ≡ true →
    list_all is_text_byte l ≡ true → list_all is_text_byte (e ++ r ++ p ++ o ++ d ++ l) ≡ true
six-plain e r p o d l he hr hp ho hd hl =
    plain-append (e ++ r ++ p ++ o ++ d) l (plain-append (e ++ r ++ p
    ++ o) d (plain-append (e ++ r ++ p) o (plain-append (e
    ++ r) p (plain-append e r he hr) hp) ho) hd) hl

-- the bytes of the normal text
pub normal-bytes : (v : Version) → IsVersion v → list_all is_text_byte (normal_text v) ≡ true
normal-bytes v is =
    let fits = is.numbers in
    six-plain (epoch_text v.epoch) (release_text v.release) (pre_text v.pre) (post_text v.post)
    (dev_text v.dev) (label_text v.label)
    (epoch-plain v.epoch fits.epoch) (release-plain v.release fits.release)
    (pre-plain v.pre fits.pre) (post-plain v.post fits.post) (dev-plain v.dev fits.dev)
    (label-plain v.label is.label fits.label)

-- the normal text of a version spells it
pub normal-spells : (v : Version) → IsVersion v → Spells (normal_text v) v
normal-spells v is =
    let fits = is.numbers in
    let pieces : normal_text v ≡ epoch_text v.epoch ++ (release_text v.release
    ++ (pre_text v.pre ++ (post_text v.post ++ (dev_text v.dev ++ (label_text v.label ++ [])))))
    =
    regroup (epoch_text v.epoch) (release_text v.release) (pre_text v.pre) (post_text v.post)
    (dev_text v.dev) (label_text v.label) in
    let plain = normal-bytes v is in (
      record {
        preceding_v = [];
        epoch = epoch_text v.epoch;
        release = release_text v.release;
        pre = pre_text v.pre;
        post = post_text v.post;
        dev = dev_text v.dev;
        label = label_text v.label;
        pieces =
            ap str_to_ascii_lowercase (plain-trimmed (normal_text v) plain)
            ∙ plain-lower (normal_text v) plain ∙ pieces;
        preceding_v_is = inl refl;
        epoch_is = epoch-spells v.epoch fits.epoch;
        release_is = release-spells v.release is.release fits.release;
        pre_is = pre-spells v.pre fits.pre;
        post_is = post-spells (pre_text v.pre) v.post fits.post;
        dev_is = dev-spells v.dev fits.dev;
        label_is = label-spells v.label is.label fits.label;
      },
      fits,
    )
