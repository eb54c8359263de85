-- The reading of a whole version from its spelling. So a text spells at most one version, and a
-- text of which something other than a label is left spells none.
use Rattle.std.proofs.Common.{◌≡◌, ◌==◌, ◌&&◌, ◌||◌, ℕ, List, [], ◌∷◌, ◌++◌, Option, Some, None}
use Rattle.std.proofs.Common.{Bool, true, false, codes, refl, sym, ap, subst, ◌∙◌, arith, inl, inr}
use Rattle.std.proofs.Common.{append-nil, append_assoc}
use Rattle.std.proofs.lemmas.Bool.{cases_Bool}
use Rattle.std.specs.Char.{is_ascii_digit}
use Rattle.std.specs.List.{list_all, onto_first}
use Rattle.std.specs.Str.{str_to_ascii_lowercase}
use Rattle.std.specs.Str.Parse.{digits_value}
use Rattle.pep_version.specs.declared.parts.Phase.{Phase}
use Rattle.pep_version.specs.Version.{Segment, Version}
use Rattle.pep_version.specs.Spelling.{DevSpelling, EpochSpelling, IsOneOf, IsOptionalSeparator}
use Rattle.pep_version.specs.Spelling.{LabelSpelling, PostSpelling, PreSpelling, PrecedingVSpelling}
use Rattle.pep_version.specs.Spelling.{SpellsAny, dotted_parts, is_number, pre_words}
use Rattle.texts.specs.Space.{trimmed}
use Rattle.texts.specs.Bytes.{is_separator}
use Rattle.texts.proofs.Connectives.{and-true, and_first, and_parts, and_second, or-true}
use Rattle.texts.proofs.Connectives.{or_second}
use Rattle.pep_version.proofs.Words.{letter-no-digit, pre-letters, starts_letter}
use Rattle.pep_version.proofs.Readers.{digits-append, may_follow}
use Rattle.pep_version.proofs.Suffixes.{suffix-read, tail-worded}
use Rattle.pep_version.proofs.Tails.{Tail, digits-all, digits-start, whole-of}
use Rattle.pep_version.specs.Way.Reading.{bang, behind, epoch_taken, from_epoch, read_epoch, read_label}
use Rattle.pep_version.specs.Way.Reading.{read_label_text, read_suffix, read_version, release_behind}
use Rattle.pep_version.specs.Way.Reading.{release_front, passes, behind_epoch, is_label_text}
use Rattle.pep_version.specs.Way.Reading.{starts_digit, with_suffix, without_separator, without_v}

abbrev pub is_dotted : List ℕ → Bool
is_dotted [] = true
is_dotted (b ∷ rest) = (is_ascii_digit b || ((b == 46) && starts_digit rest)) && is_dotted rest

-- a dot and a digit
abbrev dot_digit : List ℕ → Bool
dot_digit [] = false
dot_digit (b ∷ rest) = (b == 46) && starts_digit rest

starts-append : (xs rest : List ℕ) → starts_digit xs ≡ true → starts_digit (xs ++ rest) ≡ true
starts-append [] rest s = cc s
starts-append (x ∷ xs) rest s = s

-- the release is read as far as it is dotted numbers, and the rest is left
release-append : (xs rest : List ℕ) → is_dotted xs ≡ true → starts_digit rest ≡ false
    → dot_digit rest ≡ false
    → (release_front (xs ++ rest) ≡ xs) × (release_behind (xs ++ rest) ≡ rest)
release-append [] [] d s t = (refl, refl)
release-append [] (b ∷ rest) d s t = (rw (s, t) refl, rw (s, t) refl)
release-append (x ∷ xs) rest d s t =
    let parts = and_parts (is_ascii_digit x || ((x == 46) && starts_digit xs)) (is_dotted xs) d in
    let more = release-append xs rest parts.1 s t in
    let front = ap (λ (l : List ℕ). x ∷ l) more.0 in
    elim (cases_Bool (is_ascii_digit x)) [
      | inl digit ↦ (rw digit front, rw digit more.1)
      | inr other ↦
          let second = (x == 46) && starts_digit xs in
          let both = and_parts (x == 46) (starts_digit xs)
          (or_second (is_ascii_digit x) second other parts.0) in
          let next = starts-append xs rest both.1 in
          (rw (other, both.0, next) front, rw (other, both.0, next) more.1)
    ]

-- ---- numbers between dots

abbrev pub first_ok : List (List ℕ) → Bool
first_ok [] = true
first_ok (p ∷ ps) = list_all is_ascii_digit p && list_all is_number ps

pub numbers-first : (ps : List (List ℕ)) → list_all is_number ps ≡ true → first_ok ps ≡ true
numbers-first [] h = refl
numbers-first (p ∷ ps) h =
    let digits = digits-all p (and_first (is_number p) (list_all is_number ps) h) in
    rw (digits, and_second (is_number p) (list_all is_number ps) h) refl

onto-number : (c : ℕ) (ps : List (List ℕ)) → list_all is_number (onto_first c ps) ≡ true →
    is_ascii_digit c ≡ true
onto-number c [] h = and_first (is_ascii_digit c) true (and_first (is_number (c ∷ [])) true h)
onto-number c (p ∷ ps) h =
    and_first (is_ascii_digit c) (list_all is_ascii_digit p)
    (and_first (is_number (c ∷ p)) (list_all is_number ps) h)

numbers-start : (xs : List ℕ) → list_all is_number (dotted_parts xs) ≡ true → starts_digit xs ≡ true
numbers-start [] h = cc h
numbers-start (c ∷ rest) h = elim (cases_Bool (c == 46)) [
  | inl dot ↦ cc (rw dot at h)
  | inr other ↦ onto-number c (dotted_parts rest) (rw other at h)
]

onto-digit : (b : ℕ) (ps : List (List ℕ)) → first_ok (onto_first b ps) ≡ true →
    is_ascii_digit b ≡ true
onto-digit b [] h = and_first (is_ascii_digit b) true (and_first (is_ascii_digit b && true) true h)
onto-digit b (p ∷ ps) h =
    and_first (is_ascii_digit b) (list_all is_ascii_digit p) (and_first (is_ascii_digit b
    && list_all is_ascii_digit p) (list_all is_number ps) h)

onto-rest : (b : ℕ) (ps : List (List ℕ)) → first_ok (onto_first b ps) ≡ true → first_ok ps ≡ true
onto-rest b [] h = refl
onto-rest b (p ∷ ps) h =
    let digits =
    and_second (is_ascii_digit b) (list_all is_ascii_digit p) (and_first (is_ascii_digit b
    && list_all is_ascii_digit p) (list_all is_number ps) h) in
    rw (
      digits,
      and_second (is_ascii_digit b && list_all is_ascii_digit p)
          (list_all is_number ps) h,
    ) refl

pub dotted-ok : (xs : List ℕ) → first_ok (dotted_parts xs) ≡ true → is_dotted xs ≡ true
dotted-ok [] h = refl
dotted-ok (b ∷ rest) h = elim (cases_Bool (b == 46)) [
  | inl dot ↦
      let numbers : list_all is_number (dotted_parts rest) ≡ true = rw dot at h in
      let start = numbers-start rest numbers in
      let more = dotted-ok rest (numbers-first (dotted_parts rest) numbers) in
      rw (dot, start, more) (and-true (is_ascii_digit b || true) ∙ or-true (is_ascii_digit b))
  | inr other ↦
      let parts : first_ok (onto_first b (dotted_parts rest)) ≡ true = rw other at h in
      let digit = onto-digit b (dotted_parts rest) parts in
      let more = dotted-ok rest (onto-rest b (dotted_parts rest) parts) in
      rw (digit, more) refl
]

-- ---- what stands behind a release

record Head (text : List ℕ) : Type 0 where
  no_digit : starts_digit text ≡ false
  no_dot : dot_digit text ≡ false
  no_bang : bang text ≡ None

dot-separates : (b : ℕ) → (b == 46) ≡ true → is_separator b ≡ true
dot-separates b h = grind arith

no-dot : (text : List ℕ) → starts_digit (without_separator text) ≡ false → dot_digit text ≡ false
no-dot [] s = refl
no-dot (b ∷ rest) s = elim (cases_Bool (b == 46)) [
  | inl dot ↦ let t = rw (dot-separates b dot) at s in rw (dot, t) refl
  | inr other ↦ rw other refl
]

follows-no-bang : (text : List ℕ) → may_follow text ≡ true → bang text ≡ None
follows-no-bang [] f = refl
follows-no-bang (b ∷ rest) f = let other : (b == 33) ≡ false = grind arith in rw other refl

head-from-tail : (text : List ℕ) → Tail text → Head text
head-from-tail text t =
    record {
      no_digit = t.no_digit;
      no_dot = no-dot text t.no_digit_behind;
      no_bang = follows-no-bang text t.follows;
    }

separator-head : (c : ℕ) (text : List ℕ) → is_separator c ≡ true → starts_digit text ≡ false →
    Head (c ∷ text)
separator-head c text b s =
    let other : (c == 33) ≡ false = grind arith in
    let no : is_ascii_digit c ≡ false = grind arith in
    record { no_digit = no; no_dot = no-dot (c ∷ text) (rw b s); no_bang = rw other refl }

letters-head : (letters text : List ℕ) → starts_letter letters ≡ true → Head (letters ++ text)
letters-head [] text h = cc h
letters-head (b ∷ letters) text h =
    let dot : (b == 46) ≡ false = grind arith in
    let other : (b == 33) ≡ false = grind arith in
    record { no_digit = letter-no-digit b h; no_dot = rw dot refl; no_bang = rw other refl }

head-at-pre : (phase : Phase) (before letters text : List ℕ) → IsOptionalSeparator before →
    IsOneOf (pre_words phase) letters → Head (before ++ (letters ++ text))
head-at-pre phase [] letters text b l = letters-head letters text (pre-letters phase letters l).0
head-at-pre phase (c ∷ []) letters text b l =
    separator-head c (letters ++ text) b
    (letters-head letters text (pre-letters phase letters l).0).no_digit
head-at-pre phase (c ∷ d ∷ before) letters text b l = absurd b

head-post : (pre post dev rest : List ℕ) (vpost vdev : Option ℕ) (label : List Segment) →
    PostSpelling pre post vpost → DevSpelling dev vdev → LabelSpelling rest label →
    Head (post ++ (dev ++ rest))
head-post pre post dev rest None vdev label p d l =
    head-from-tail (post ++ (dev ++ rest)) (tail-worded pre post dev rest None vdev label p d l)
head-post pre post dev rest (Some n) vdev label (inl p) d l =
    head-from-tail (post ++ (dev ++ rest)) (tail-worded pre post dev rest (Some n) vdev label p d l)
head-post pre post dev rest (Some n) vdev label (inr p) d l =
    let shape : post ++ (dev ++ rest) ≡ 45 ∷ (p.digits ++ (dev ++ rest)) =
    ap (λ (x : List ℕ). x ++ (dev ++ rest)) p.pieces in
    rw shape (record { no_digit = refl; no_dot = refl; no_bang = refl })

head-suffix : (pre post dev rest : List ℕ) (vpre : Option (Phase
    × ℕ)) (vpost vdev : Option ℕ) (label : List Segment) → PreSpelling pre vpre →
    PostSpelling pre post vpost → DevSpelling dev vdev → LabelSpelling rest label
    → Head (pre ++ (post ++ (dev ++ rest)))
head-suffix pre post dev rest None vpost vdev label e p d l =
    let plain = head-post pre post dev rest vpost vdev label p d l in rw e plain
head-suffix pre post dev rest (Some q) vpost vdev label e p d l =
    subst Head (sym (whole-of (pre_words q.0) pre (post ++ (dev ++ rest)) q.1 e))
    (head-at-pre q.0 e.before e.letters (e.after ++ (e.digits
    ++ (post ++ (dev ++ rest)))) e.before_is e.letters_is)

-- ---- the whole

digit-no-v : (text : List ℕ) → starts_digit text ≡ true → without_v text ≡ text
digit-no-v [] s = refl
digit-no-v (x ∷ rest) s = let other : (x == 118) ≡ false = grind arith in rw other refl

v-read : («prefix» text : List ℕ) → PrecedingVSpelling «prefix» → starts_digit text ≡ true →
    without_v («prefix» ++ text) ≡ text
v-read «prefix» text (inl e) s = let plain = digit-no-v text s in rw e plain
v-read «prefix» text (inr e) s = rw e refl

bang-behind : (xs rest : List ℕ) → is_dotted xs ≡ true → Head rest →
    bang (behind (xs ++ rest)) ≡ None
bang-behind [] rest d h = ap bang (digits-append [] rest refl h.no_digit).1 ∙ h.no_bang
bang-behind (x ∷ xs) rest d h =
    let one = and_first (is_ascii_digit x || ((x == 46) && starts_digit xs)) (is_dotted xs) d in
    let more =
    bang-behind xs rest (and_second (is_ascii_digit x
    || ((x == 46) && starts_digit xs)) (is_dotted xs) d) h in
    elim (cases_Bool (is_ascii_digit x)) [
      | inl digit ↦ rw digit more
      | inr other ↦
          let dot =
          and_first (x == 46) (starts_digit xs) (or_second (is_ascii_digit x) ((x == 46)
          && starts_digit xs) other one) in
          let no : (x == 33) ≡ false = grind arith in
          rw (other, no) refl
    ]

epoch-read : (epoch release rest : List ℕ) (n : ℕ) → EpochSpelling epoch n →
    is_dotted release ≡ true → starts_digit release ≡ true → Head rest
    → (read_epoch (epoch ++ (release ++ rest)) ≡ (n, release ++ rest))
    × (starts_digit (epoch ++ (release ++ rest)) ≡ true)
epoch-read epoch release rest n (inl e) d s h =
    let none = bang-behind release rest d h in
    let plain : read_epoch (release ++ rest) ≡ (0, release ++ rest) =
    ap (λ q. epoch_taken q (release ++ rest)) none in
    let start = starts-append release rest s in
    (rw (e.0, e.1) plain, rw e.0 start)
epoch-read epoch release rest n (inr e) d s h =
    let all = digits-all e.0 e.2.0 in
    let shape : epoch ++ (release ++ rest) ≡ e.0 ++ (33 ∷ (release ++ rest)) =
    ap (λ (x : List ℕ). x ++ (release ++ rest)) e.1
    ∙ append_assoc e.0 (codes "!") (release ++ rest) in
    let taken = digits-append e.0 (33 ∷ (release ++ rest)) all refl in
    let plain : read_epoch (e.0 ++ (33 ∷ (release ++ rest))) ≡ (n, release ++ rest) =
    (λ i. epoch_taken (bang (taken.1 i)) (e.0 ++ (33 ∷ (release ++ rest))))
    ∙ (λ i. (digits_value 10 (taken.0 i), release ++ rest))
    ∙ λ i. (sym e.2.1 i, release ++ rest) in (
      ap read_epoch shape ∙ plain,
      ap starts_digit shape
          ∙ digits-start e.0 (33 ∷ (release ++ rest)) e.2.0,
    )

label-read : (text : List ℕ) (label : List Segment) → LabelSpelling text label →
    read_label text ≡ label
label-read [] label l = sym l
label-read (b ∷ text) label l = sym l.2

-- the text of the parts behind the release
abbrev suffix_of : (text : List ℕ) (v : Version) → SpellsAny text v → List ℕ
suffix_of text v s = s.pre ++ (s.post ++ (s.dev ++ s.label))

-- where the parts of a spelled text begin and end
record Places (text : List ℕ) (v : Version) (s : SpellsAny text v) : Type 0 where
  whole : str_to_ascii_lowercase (trimmed text) ≡ s.preceding_v
      ++ (s.epoch ++ (s.release ++ suffix_of text v s))
  no_v : without_v (str_to_ascii_lowercase (trimmed text)) ≡ s.epoch
      ++ (s.release ++ suffix_of text v s)
  epoch : read_epoch (s.epoch ++ (s.release ++ suffix_of text v s))
      ≡ (v.epoch, s.release ++ suffix_of text v s)
  start : starts_digit (s.epoch ++ (s.release ++ suffix_of text v s)) ≡ true
  release_start : starts_digit (s.release ++ suffix_of text v s) ≡ true
  release : release_front (s.release ++ suffix_of text v s) ≡ s.release
  behind_release : release_behind (s.release ++ suffix_of text v s) ≡ suffix_of text v s
  suffix : read_suffix (suffix_of text v s) ≡ (v.pre, (v.post, (v.dev, s.label)))

places : (text : List ℕ) (v : Version) (s : SpellsAny text v) → Places text v s
places text v s =
    let suffix = suffix_of text v s in
    let ends : s.pre ++ (s.post ++ (s.dev ++ (s.label ++ []))) ≡ suffix =
    ap (λ (x : List ℕ). s.pre ++ (s.post ++ (s.dev ++ x))) (append-nil s.label) in
    let head =
    head-suffix s.pre s.post s.dev s.label v.pre v.post v.dev v.label s.pre_is s.post_is
    s.dev_is s.label_is in
    let dotted = dotted-ok s.release (numbers-first (dotted_parts s.release) s.release_is.0) in
    let taken = release-append s.release suffix dotted head.no_digit head.no_dot in
    let start = numbers-start s.release s.release_is.0 in
    let epoch = epoch-read s.epoch s.release suffix v.epoch s.epoch_is dotted start head in
    let whole : str_to_ascii_lowercase (trimmed text) ≡ s.preceding_v
    ++ (s.epoch ++ (s.release ++ suffix)) =
    s.pieces ∙ ap (λ (x : List ℕ). s.preceding_v ++ (s.epoch ++ (s.release ++ x))) ends in
    record {
      whole = whole;
      no_v = ap without_v whole ∙ v-read s.preceding_v (s.epoch
          ++ (s.release ++ suffix)) s.preceding_v_is epoch.1;
      epoch = epoch.0;
      start = epoch.1;
      release_start = starts-append s.release suffix start;
      release = taken.0;
      behind_release = taken.1;
      suffix =
          suffix-read s.pre s.post s.dev s.label v.pre v.post v.dev v.label s.pre_is s.post_is
          s.dev_is s.label_is;
    }

-- a text spells what is read from it
pub spelled-read : (text : List ℕ) (v : Version) → SpellsAny text v →
    read_version (str_to_ascii_lowercase (trimmed text)) ≡ v
spelled-read text v s =
    let p = places text v s in
    ap (λ (x : List ℕ). from_epoch (read_epoch x)) p.no_v ∙ ap from_epoch p.epoch
    ∙ (λ i. with_suffix v.epoch (p.release i) (read_suffix (p.behind_release i)))
    ∙ (λ i. with_suffix v.epoch s.release (p.suffix i))
    ∙ λ i. record {
      epoch = v.epoch;
      release = sym s.release_is.1 i;
      pre = v.pre;
      post = v.post;
      dev = v.dev;
      label = label-read s.label v.label s.label_is i;
    }

-- a text spells at most one version
pub one-version : (text : List ℕ) (v w : Version) → SpellsAny text v → SpellsAny text w → v ≡ w
one-version text v w s t = sym (spelled-read text v s) ∙ spelled-read text w t

-- of a spelled text it is the label's text, so any other leftover refutes every spelling
pub spelled-label : (text : List ℕ) (v : Version) (s : SpellsAny text v) →
    read_label_text (str_to_ascii_lowercase (trimmed text)) ≡ s.label
spelled-label text v s =
    let p = places text v s in
    ap (λ (x : List ℕ). (read_suffix (release_behind (read_epoch x).1)).1.1.1) p.no_v
    ∙ ap (λ (e : ℕ × List ℕ). (read_suffix (release_behind e.1)).1.1.1) p.epoch
    ∙ ap (λ (x : List ℕ). (read_suffix x).1.1.1) p.behind_release
    ∙ ap (λ (q : Option (Phase × ℕ) × (Option ℕ × (Option ℕ × List ℕ))). q.1.1.1) p.suffix

label-passes : (text : List ℕ) (label : List Segment) → LabelSpelling text label →
    is_label_text text ≡ true
label-passes [] label l = refl
label-passes (b ∷ text) label l = rw (l.0, l.1) refl

-- a spelled text passes
pub spelled-passes : (text : List ℕ) (v : Version) → SpellsAny text v →
    passes (str_to_ascii_lowercase (trimmed text)) ≡ true
spelled-passes text v s =
    let p = places text v s in
    let lower = str_to_ascii_lowercase (trimmed text) in
    let first : starts_digit (without_v lower) ≡ true = ap starts_digit p.no_v ∙ p.start in
    let release : starts_digit (behind_epoch lower) ≡ true =
    ap (λ (x : List ℕ). starts_digit (read_epoch x).1) p.no_v
    ∙ ap (λ (e : ℕ × List ℕ). starts_digit e.1) p.epoch ∙ p.release_start in
    let label : is_label_text (read_label_text lower) ≡ true =
    ap is_label_text (spelled-label text v s) ∙ label-passes s.label v.label s.label_is in
    λ i. first i && release i && label i
