-- What is read from a text that passes is what the text spells.
use Rattle.std.proofs.Common.{◌≡◌, ◌==◌, ◌&&◌, ℕ, Bool, true, false, not, List, [], ◌∷◌, ◌++◌}
use Rattle.std.proofs.Common.{Option, Some, None, codes, refl, sym, ap, subst, ◌∙◌, arith, inl, inr}
use Rattle.std.proofs.Common.{append-nil, append_assoc}
use Rattle.std.proofs.lemmas.Bool.{cases_Bool}
use Rattle.std.specs.Prelude.{if◌then◌else◌}
use Rattle.std.specs.Char.{is_ascii_alphabetic, is_ascii_digit}
use Rattle.std.specs.List.{AllByRecursion, list_all, onto_first}
use Rattle.std.specs.Str.{str_to_ascii_lowercase}
use Rattle.std.specs.Str.Parse.{digits_value}
use Rattle.pep_version.specs.declared.parts.Phase.{Phase}
use Rattle.pep_version.specs.Way.Reading.{bang, behind, behind_epoch, behind_phase, behind_word}
use Rattle.pep_version.specs.Way.Reading.{epoch_taken, front, is_label_text, number_behind, or_else}
use Rattle.pep_version.specs.Way.Reading.{passes, phase_or, pre_taken, read_dev, read_epoch, read_label}
use Rattle.pep_version.specs.Way.Reading.{read_label_text, read_post, read_pre, read_version}
use Rattle.pep_version.specs.Way.Reading.{read_word_and_number, release_behind, release_front}
use Rattle.pep_version.specs.Way.Reading.{starts_digit, stripped, table, taken, without_separator}
use Rattle.pep_version.specs.Way.Reading.{without_v}
use Rattle.pep_version.specs.Spelling.{DevSpelling, EpochSpelling, IsOneOf, IsOptionalSeparator}
use Rattle.pep_version.specs.Spelling.{LabelSpelling, OptionalNumberSpelling, PostSpelling}
use Rattle.pep_version.specs.Spelling.{PreSpelling, PrecedingVSpelling, SpellsAny, WordAndNumber}
use Rattle.pep_version.specs.Spelling.{dev_words, dotted_parts, ends_in_letter, is_number, is_run}
use Rattle.pep_version.specs.Spelling.{post_words, pre_words, separated_parts}
use Rattle.texts.specs.Space.{trimmed}
use Rattle.texts.specs.Bytes.{is_separator}
use Rattle.pep_version.proofs.OneVersion.{first_ok, numbers-first}
use Rattle.texts.proofs.Connectives.{and_first, and_second, not-true}
use Rattle.pep_version.proofs.Tails.{whole-of}

-- ---- digits and separators

front-whole : (t : List ℕ) → t ≡ front t ++ behind t
front-whole [] = refl
front-whole (b ∷ rest) = elim (cases_Bool (is_ascii_digit b)) [
  | inl digit ↦ rw digit (ap (λ (l : List ℕ). b ∷ l) (front-whole rest))
  | inr other ↦ rw other refl
]

pub front-digits : (t : List ℕ) → list_all is_ascii_digit (front t) ≡ true
front-digits [] = refl
front-digits (b ∷ rest) = elim (cases_Bool (is_ascii_digit b)) [
  | inl digit ↦ let more = front-digits rest in rw digit (rw digit more)
  | inr other ↦ rw other refl
]

abbrev separator_of : List ℕ → List ℕ
separator_of [] = []
separator_of (b ∷ rest) = if is_separator b then b ∷ [] else []

separator-whole : (t : List ℕ) → t ≡ separator_of t ++ without_separator t
separator-whole [] = refl
separator-whole (b ∷ rest) =
    elim (cases_Bool (is_separator b)) [
      | inl separates ↦ rw separates refl
      | inr other ↦ rw other refl
    ]

separator-is : (t : List ℕ) → IsOptionalSeparator (separator_of t)
separator-is [] = tt
separator-is (b ∷ rest) =
    elim (cases_Bool (is_separator b)) [
      | inl separates ↦ rw separates separates
      | inr other ↦ rw other tt
    ]

optional : (ds : List ℕ) → list_all is_ascii_digit ds ≡ true →
    OptionalNumberSpelling ds (digits_value 10 ds)
optional [] h = refl
optional (d ∷ ds) h = (h, refl)

-- ---- words

same-byte : (w b : ℕ) → (w == b) ≡ true → w ≡ b
same-byte w b h = grind arith

some-same : {A : Type 0} (x y : A) → ◌≡◌ {A = Option A} (Some x) (Some y) → x ≡ y
some-same x y e = cc e

stripped-whole : (letters t rest : List ℕ) → stripped letters t ≡ Some rest → t ≡ letters ++ rest
stripped-whole [] t rest e = some-same t rest e
stripped-whole (w ∷ letters) [] rest e = cc e
stripped-whole (w ∷ letters) (b ∷ t) rest e = elim (cases_Bool (w == b)) [
  | inl same ↦ λ i. sym (same-byte w b same) i ∷ stripped-whole letters t rest (rw same at e) i
  | inr other ↦ cc (rw other at e)
]

record Worded (words : List (List ℕ)) (t rest : List ℕ) : Type 0 where
  letters : List ℕ
  letters_is : IsOneOf words letters
  whole : t ≡ letters ++ rest

behind_word-whole : (words : List (List ℕ)) (t rest : List ℕ) → behind_word words t ≡ Some rest →
    Worded words t rest
behind_word-whole [] t rest e = cc e
behind_word-whole (letters ∷ words) t rest e =
    go (stripped letters t) refl e (behind_word-whole words t rest)
  where
    go : (o : Option (List ℕ)) → stripped letters t ≡ o →
        or_else o (behind_word words t) ≡ Some rest →
        (behind_word words t ≡ Some rest → Worded words t rest) → Worded (letters ∷ words) t rest
    go (Some x) s f more =
        record {
          letters = letters;
          letters_is = inl refl;
          whole = stripped-whole letters t rest (s ∙ f);
        }
    go None s f more =
        let others = more f in record {
          letters = others.letters;
          letters_is = inr others.letters_is;
          whole = others.whole;
        }

-- a text that a word and a number open
record Numbered (words : List (List ℕ)) (t rest : List ℕ) (n : ℕ) : Type 0 where
  piece : List ℕ
  piece_is : WordAndNumber words piece n
  whole : t ≡ piece ++ rest

-- the word and the number behind it, with what is behind both
numbered : (words : List (List ℕ)) (t u : List ℕ) → Worded words (without_separator t) u
    → Numbered words t (behind (without_separator u))
    (digits_value 10 (front (without_separator u)))
numbered words t u w =
    let piece =
    separator_of t ++ (w.letters ++ (separator_of u ++ (front (without_separator u) ++ []))) in
    let spelled : WordAndNumber words piece (digits_value 10 (front (without_separator u))) =
    record {
      before = separator_of t;
      letters = w.letters;
      after = separator_of u;
      digits = front (without_separator u);
      pieces = refl;
      before_is = separator-is t;
      letters_is = w.letters_is;
      after_is = separator-is u;
      digits_is = optional (front (without_separator u)) (front-digits (without_separator u));
    } in
    let rest = behind (without_separator u) in
    let inner : u ≡ separator_of u ++ (front (without_separator u) ++ rest) =
    separator-whole u ∙ ap (λ (l : List ℕ). separator_of u
    ++ l) (front-whole (without_separator u)) in
    let outer : t ≡ separator_of t ++ (w.letters ++ u) =
    separator-whole t ∙ ap (λ (l : List ℕ). separator_of t ++ l) w.whole in
    record {
      piece = piece;
      piece_is = spelled;
      whole =
          outer ∙ ap (λ (l : List ℕ). separator_of t ++ (w.letters ++ l)) inner
          ∙ sym (whole-of words piece rest (digits_value 10 (front (without_separator u))) spelled);
    }

pair-first : (m n : ℕ) (x y : List ℕ) → ◌≡◌ {A = Option (ℕ × List ℕ)} (Some (m, x)) (Some (n, y)) →
    m ≡ n
pair-first m n x y e i = some-first (e i)
  where
    some-first : Option (ℕ × List ℕ) → ℕ
    some-first None = m
    some-first (Some q) = q.0

-- a part that a word and a number spell, or none
record Part (spells : List ℕ → Option ℕ → Type 0) (t : List ℕ) (q : Option ℕ
    × List ℕ) : Type 0 where
  piece : List ℕ
  piece_is : spells piece q.0
  whole : t ≡ piece ++ q.1

abbrev SpellsPart : List (List ℕ) → List ℕ → Option ℕ → Type 0
SpellsPart words piece None = piece ≡ []
SpellsPart words piece (Some n) = WordAndNumber words piece n

part-worded : (words : List (List ℕ)) (t : List ℕ) →
    Part (SpellsPart words) t (taken (read_word_and_number words t) t)
part-worded words t = go (behind_word words (without_separator t)) refl
  where
    go : (o : Option (List ℕ)) → behind_word words (without_separator t) ≡ o →
        Part (SpellsPart words) t (taken (number_behind o) t)
    go None e = record { piece = []; piece_is = refl; whole = refl }
    go (Some u) e =
        let n = numbered words t u (behind_word-whole words (without_separator t) u e) in
        record { piece = n.piece; piece_is = n.piece_is; whole = n.whole }

dev-spelled : (t : List ℕ) → Part DevSpelling t (read_dev t)
dev-spelled t =
    let p = part-worded dev_words t in record {
      piece = p.piece;
      piece_is = as-dev p.piece (read_dev t).0 p.piece_is;
      whole = p.whole;
    }
  where
    as-dev : (piece : List ℕ) (dev : Option ℕ) → SpellsPart dev_words piece dev →
        DevSpelling piece dev
    as-dev piece None h = h
    as-dev piece (Some n) h = h

-- ---- the post-release

abbrev starts_dash : List ℕ → Bool
starts_dash [] = false
starts_dash (b ∷ rest) = b == 45

some-front : (t : List ℕ) → starts_digit t ≡ true → is_number (front t) ≡ true
some-front [] s = cc s
some-front (b ∷ rest) s = let more = front-digits rest in rw s (rw s more)

post-spelled : (pre t : List ℕ) → (starts_dash t ≡ true → ends_in_letter pre ≡ false) →
    Part (PostSpelling pre) t (read_post t)
post-spelled pre [] kept = record { piece = []; piece_is = refl; whole = refl }
post-spelled pre (b ∷ rest) kept = elim (cases_Bool ((b == 45) && starts_digit rest)) [
  | inl implicit ↦
      let dash = and_first (b == 45) (starts_digit rest) implicit in
      let starts = and_second (b == 45) (starts_digit rest) implicit in
      let same = same-byte b 45 dash in
      rw implicit (record {
        piece = 45 ∷ front rest;
        piece_is =
            inr (record {
              digits = front rest;
              pieces = refl;
              digits_is = (some-front rest starts, refl);
              after_no_bare_word = rw (kept dash) refl;
            });
        whole = λ i. same i ∷ front-whole rest i;
      })
  | inr other ↦
      let p = part-worded post_words (b ∷ rest) in
      rw other (record {
        piece = p.piece;
        piece_is =
            as-post p.piece (taken (read_word_and_number post_words (b ∷ rest)) (b
            ∷ rest)).0 p.piece_is;
        whole = p.whole;
      })
]
  where
    as-post : (piece : List ℕ) (post : Option ℕ) → SpellsPart post_words piece post →
        PostSpelling pre piece post
    as-post piece None h = h
    as-post piece (Some n) h = inl h

-- ---- the pre-release

ends-behind : (xs : List ℕ) (y : ℕ) (ys : List ℕ) → ends_in_letter (xs ++ y ∷ ys)
    ≡ ends_in_letter (y ∷ ys)
ends-behind [] y ys = refl
ends-behind (x ∷ []) y ys = refl
ends-behind (x ∷ z ∷ xs) y ys = ends-behind (z ∷ xs) y ys

no-letters : (xs : List ℕ) → list_all (λ b. not (is_ascii_alphabetic b)) xs ≡ true →
    ends_in_letter xs ≡ false
no-letters [] h = refl
no-letters (x ∷ []) h =
    not-true (is_ascii_alphabetic x) (and_first (not (is_ascii_alphabetic x)) true h)
no-letters (x ∷ y ∷ xs) h =
    no-letters (y ∷ xs) (and_second (not (is_ascii_alphabetic x))
    (list_all (λ b. not (is_ascii_alphabetic b)) (y ∷ xs)) h)

digit-no-letter : (b : ℕ) → is_ascii_digit b ≡ true → not (is_ascii_alphabetic b) ≡ true
digit-no-letter b h = grind arith

separator-no-letter : (b : ℕ) → is_separator b ≡ true → not (is_ascii_alphabetic b) ≡ true
separator-no-letter b h = grind arith

digits-no-letter : (ds : List ℕ) → list_all is_ascii_digit ds ≡ true →
    list_all (λ b. not (is_ascii_alphabetic b)) (ds ++ []) ≡ true
digits-no-letter [] h = refl
digits-no-letter (d ∷ ds) h =
    rw (
      digit-no-letter d (and_first (is_ascii_digit d) (list_all is_ascii_digit ds) h),
      digits-no-letter ds (and_second (is_ascii_digit d) (list_all is_ascii_digit ds) h),
    ) refl

dash-separates : (b : ℕ) → (b == 45) ≡ true → is_separator b ≡ true
dash-separates b h = rw h refl

-- what ends in a byte that is no letter, and digits, ends in no letter
ends-digits : (b l : List ℕ) (c : ℕ) (ds : List ℕ) → not (is_ascii_alphabetic c) ≡ true →
    list_all is_ascii_digit ds ≡ true → ends_in_letter (b ++ (l ++ (c ∷ (ds ++ [])))) ≡ false
ends-digits b l c ds other digits =
    ap ends_in_letter (sym (append_assoc b l (c ∷ (ds ++ [])))) ∙ ends-behind (b ++ l) c (ds ++ [])
    ∙ no-letters (c ∷ (ds ++ [])) (rw (other, digits-no-letter ds digits) refl)

-- where `-` is left, the part does not end in a letter
kept-dash : (b l u : List ℕ) → starts_dash (behind (without_separator u)) ≡ true
    → ends_in_letter (b ++ (l ++ (separator_of u ++ (front (without_separator u) ++ [])))) ≡ false
kept-dash b l [] h = cc h
kept-dash b l (c ∷ u) h = elim (cases_Bool (is_separator c)) [
  | inl separates ↦
      rw separates (ends-digits b l c (front u) (separator-no-letter c separates) (front-digits u))
  | inr other ↦ elim (cases_Bool (is_ascii_digit c)) [
    | inl digit ↦
        rw (other, digit)
        (ends-digits b l c (front u) (digit-no-letter c digit) (front-digits u))
    | inr no_digit ↦ let dash : (c == 45) ≡ true =
        rw (other, no_digit) at h in cc (dash-separates c dash, other)
  ]
]

record PrePart (t : List ℕ) (q : Option (Phase × ℕ) × List ℕ) : Type 0 where
  piece : List ℕ
  piece_is : PreSpelling piece q.0
  whole : t ≡ piece ++ q.1
  kept : starts_dash q.1 ≡ true → ends_in_letter piece ≡ false

abbrev IsPhaseWord : Phase × List ℕ → Type 0
IsPhaseWord e = IsOneOf (pre_words e.0) e.1

table-is : AllByRecursion IsPhaseWord table
table-is = (
  inr (inl refl),
  (
    inl refl,
    (
      inr (inl refl),
      (
        inl refl,
        (
          inr (inr (inr (inl refl))),
          (
            inr (inr (inl refl)),
            (inl refl, (inr (inl refl), tt)),
          ),
        ),
      ),
    ),
  ),
)

behind_phase-whole : (rows : List (Phase × List ℕ)) (t : List ℕ) (q : Phase × List ℕ) →
    AllByRecursion IsPhaseWord rows → behind_phase rows t ≡ Some q → Worded (pre_words q.0) t q.1
behind_phase-whole [] t q r e = cc e
behind_phase-whole (w ∷ rows) t q r e = go (stripped w.1 t) refl e (behind_phase-whole rows t q r.1)
  where
    go : (o : Option (List ℕ)) → stripped w.1 t ≡ o → phase_or w.0 o (behind_phase rows t) ≡ Some q
        → (behind_phase rows t ≡ Some q → Worded (pre_words q.0) t q.1) →
        Worded (pre_words q.0) t q.1
    go (Some x) s f more =
        let same : ◌≡◌ {A = Phase × List ℕ} (w.0, x) q = some-same (w.0, x) q f in
        subst (λ (p : Phase × List ℕ). Worded (pre_words p.0) t p.1) same (record {
          letters = w.1;
          letters_is = r.0;
          whole = stripped-whole w.1 t x s;
        })
    go None s f more = more f

pre-spelled : (t : List ℕ) → PrePart t (read_pre t)
unfolding numbered
pre-spelled t = go (behind_phase table (without_separator t)) refl
  where
    go : (o : Option (Phase × List ℕ)) → behind_phase table (without_separator t) ≡ o →
        PrePart t (pre_taken o t)
    go None e = record { piece = []; piece_is = refl; whole = refl; kept = λ _. refl }
    go (Some q) e =
        let w = behind_phase-whole table (without_separator t) q table-is e in
        let n = numbered (pre_words q.0) t q.1 w in
        record {
          piece = n.piece;
          piece_is = n.piece_is;
          whole = n.whole;
          kept = λ h. kept-dash (separator_of t) w.letters q.1 h;
        }

-- ---- the release

release-whole : (t : List ℕ) → t ≡ release_front t ++ release_behind t
release-whole [] = refl
release-whole (b ∷ rest) = elim (cases_Bool (is_ascii_digit b)) [
  | inl digit ↦ rw digit (ap (λ (l : List ℕ). b ∷ l) (release-whole rest))
  | inr other ↦ elim (cases_Bool ((b == 46) && starts_digit rest)) [
    | inl dot ↦ rw (other, dot) (ap (λ (l : List ℕ). b ∷ l) (release-whole rest))
    | inr none ↦ rw (other, none) refl
  ]
]

release-starts : (t : List ℕ) → starts_digit t ≡ true → starts_digit (release_front t) ≡ true
release-starts [] s = s
release-starts (b ∷ rest) s = rw s s

no-dot : (b : ℕ) → is_ascii_digit b ≡ true → (b == 46) ≡ false
no-dot b h = grind arith

onto-ok : (b : ℕ) (ps : List (List ℕ)) → is_ascii_digit b ≡ true → first_ok ps ≡ true →
    list_all is_number (onto_first b ps) ≡ true
onto-ok b [] d h = rw d refl
onto-ok b (p ∷ ps) d h =
    rw (
      d,
      and_first (list_all is_ascii_digit p) (list_all is_number ps) h,
      and_second (list_all is_ascii_digit p) (list_all is_number ps) h,
    ) refl

-- all parts are numbers, but that the first may be empty where the text does not begin with a digit
release-both : (t : List ℕ) → (first_ok (dotted_parts (release_front t)) ≡ true)
    × (starts_digit t ≡ true → list_all is_number (dotted_parts (release_front t)) ≡ true)
release-both [] = (refl, λ s. cc s)
release-both (b ∷ rest) = elim (cases_Bool (is_ascii_digit b)) [
  | inl digit ↦
      let numbers = onto-ok b (dotted_parts (release_front rest)) digit (release-both rest).0 in
      let all : list_all is_number (dotted_parts (b ∷ release_front rest)) ≡ true =
      rw (no-dot b digit) numbers in
      (rw digit (numbers-first (dotted_parts (b ∷ release_front rest)) all), λ _. rw digit all)
  | inr other ↦ elim (cases_Bool ((b == 46) && starts_digit rest)) [
    | inl dot ↦
        let numbers = (release-both rest).1 (and_second (b == 46) (starts_digit rest) dot) in
        (rw (other, dot, and_first (b == 46) (starts_digit rest) dot) numbers, λ s. cc (s, other))
    | inr none ↦ (rw (other, none) refl, λ s. cc (s, other))
  ]
]

pub release-numbers : (t : List ℕ) → starts_digit t ≡ true →
    list_all is_number (dotted_parts (release_front t)) ≡ true
release-numbers t s = (release-both t).1 s

-- ---- the epoch and the `v`

record EpochPart (t : List ℕ) (q : ℕ × List ℕ) : Type 0 where
  piece : List ℕ
  piece_is : EpochSpelling piece q.0
  whole : t ≡ piece ++ q.1

bang-whole : (t rest : List ℕ) → bang t ≡ Some rest → t ≡ 33 ∷ rest
bang-whole [] rest e = cc e
bang-whole (b ∷ t) rest e = elim (cases_Bool (b == 33)) [
  | inl same ↦ λ i. same-byte b 33 same i ∷ some-same t rest (rw same at e) i
  | inr other ↦ cc (rw other at e)
]

epoch-spelled : (t : List ℕ) → starts_digit t ≡ true → EpochPart t (read_epoch t)
epoch-spelled t s = go (bang (behind t)) refl
  where
    go : (o : Option (List ℕ)) → bang (behind t) ≡ o → EpochPart t (epoch_taken o t)
    go None e = record { piece = []; piece_is = inl (refl, refl); whole = refl }
    go (Some rest) e = record {
      piece = front t ++ codes "!";
      piece_is = inr (front t, refl, (some-front t s, refl));
      whole =
          front-whole t ∙ ap (λ (l : List ℕ). front t ++ l) (bang-whole (behind t) rest e)
          ∙ sym (append_assoc (front t) (codes "!") rest);
    }

record VPart (t rest : List ℕ) : Type 0 where
  piece : List ℕ
  piece_is : PrecedingVSpelling piece
  whole : t ≡ piece ++ rest

v-spelled : (t : List ℕ) → VPart t (without_v t)
v-spelled [] = record { piece = []; piece_is = inl refl; whole = refl }
v-spelled (b ∷ rest) = elim (cases_Bool (b == 118)) [
  | inl same ↦ let letter =
      same-byte b 118 same in rw same (record {
        piece = codes "v";
        piece_is = inr refl;
        whole = λ i. letter i ∷ rest;
      })
  | inr other ↦ rw other (record { piece = []; piece_is = inl refl; whole = refl })
]

-- ---- the whole

label-spelled : (t : List ℕ) → is_label_text t ≡ true → LabelSpelling t (read_label t)
label-spelled [] h = refl
label-spelled (b ∷ t) h = (
  same-byte b 43 (and_first (b == 43) (list_all is_run (separated_parts t)) h),
  and_second (b == 43) (list_all is_run (separated_parts t)) h,
  refl,
)

pub spelled-as : (text t : List ℕ) → str_to_ascii_lowercase (trimmed text) ≡ t → passes t ≡ true →
    SpellsAny text (read_version t)
spelled-as text t is h =
    let both =
    and_first (starts_digit (without_v t) && starts_digit (behind_epoch t))
    (is_label_text (read_label_text t)) h in
    let left =
    and_second (starts_digit (without_v t) && starts_digit (behind_epoch t))
    (is_label_text (read_label_text t)) h in
    let starts = and_first (starts_digit (without_v t)) (starts_digit (behind_epoch t)) both in
    let starts_release =
    and_second (starts_digit (without_v t)) (starts_digit (behind_epoch t)) both in
    let v = v-spelled t in
    let epoch = epoch-spelled (without_v t) starts in
    let release = behind_epoch t in
    let pre = pre-spelled (release_behind release) in
    let behind_pre = (read_pre (release_behind release)).1 in
    let post = post-spelled pre.piece behind_pre pre.kept in
    let behind_post = (read_post behind_pre).1 in
    let dev = dev-spelled behind_post in
    let label = read_label_text t in
    record {
      preceding_v = v.piece;
      epoch = epoch.piece;
      release = release_front release;
      pre = pre.piece;
      post = post.piece;
      dev = dev.piece;
      label = label;
      pieces =
          is ∙ v.whole ∙ ap (λ (x : List ℕ). v.piece ++ x) (epoch.whole
          ∙ ap (λ (x : List ℕ). epoch.piece ++ x) (release-whole release
          ∙ ap (λ (x : List ℕ). release_front release ++ x)
          (pre.whole ∙ ap (λ (x : List ℕ). pre.piece ++ x) (post.whole
          ∙ ap (λ (x : List ℕ). post.piece ++ x) (dev.whole
          ∙ ap (λ (x : List ℕ). dev.piece ++ x) (sym (append-nil label)))))));
      preceding_v_is = v.piece_is;
      epoch_is = epoch.piece_is;
      release_is = (release-numbers release starts_release, refl);
      pre_is = pre.piece_is;
      post_is = post.piece_is;
      dev_is = dev.piece_is;
      label_is = label-spelled label left;
    }

-- a text that passes spells what is read from it
pub read-spelled : (text : List ℕ) → passes (str_to_ascii_lowercase (trimmed text)) ≡ true →
    SpellsAny text (read_version (str_to_ascii_lowercase (trimmed text)))
read-spelled text = spelled-as text (str_to_ascii_lowercase (trimmed text)) refl
