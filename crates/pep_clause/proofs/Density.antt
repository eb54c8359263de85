-- Between two cuts, one below the other, there is a version. So a normal list that has a range has
-- a version.
use Rattle.std.proofs.Common.{◌≡◌, ℕ, ◌<◌, ◌≤◌, ◌&&◌, true, false, List, [], ◌∷◌, ◌++◌, length}
use Rattle.std.proofs.Common.{refl, sym, ap, inl, inr, ◌∙◌, arith}
use Rattle.std.proofs.lemmas.Bool.{cases_order}
use Rattle.texts.proofs.Connectives.{and_parts, by_answer, and_not_or, or_second}
use Rattle.std.proofs.lemmas.Bool.Decides.{nat_tests}
use Rattle.std.specs.Char.{is_ascii_digit, is_ascii_lowercase}
use Rattle.std.specs.Cmp.{IsTotalOrder, nat_cmp_is, nat_cmp_total, on_total, then_total}
use Rattle.std.specs.Cmp.{tied_itself}
use Rattle.std.specs.Cmp.Lexicographic.{options_total, slice_cmp}
use Rattle.std.specs.List.{AllByRecursion, list_all, list_any}
use Rattle.std.specs.Option.{option_cmp}
use Rattle.std.specs.Ordering.{is_le, is_lt, nat_cmp, on, ordering_then, then_cmp}
use Rattle.std.specs.Prelude.{IsTrue}
use Rattle.std.specs.declared.cmp.Ordering.{Ordering}
use Rattle.std.specs.declared.cmp.Ordering.TheVariants.{Less, Equal, Greater}
use Rattle.pep_version.specs.Laws.{dev_total, place_total, segment_total}
use Rattle.pep_version.specs.Order.{dev_cmp, place_cmp, pre_number, stage, release_cmp, segment_cmp}
use Rattle.pep_version.specs.Order.{suffix_cmp}
use Rattle.pep_version.specs.Version.{Fits, IsSegment, IsVersion, Segment, SegmentFits, number}
use Rattle.pep_version.specs.Version.{Version, is_word, is_word_byte, word}
use Rattle.pep_clause.proofs.Between.{not_below_itself}
use Rattle.specifiers.specs.Clause.{Prefix}
use Rattle.pep_clause.specs.Cut.{Cut, IsCut, before, after, past, end, cut_cmp, cut_version}
use Rattle.pep_clause.specs.Cut.{final_version, is_under}
use Rattle.pep_clause.specs.Inhabited.{HasVersionUnlessEmpty}
use Rattle.pep_clause.specs.Laws.{cut_total}
use Rattle.pep_clause.proofs.UnderCut.{is_under-cut_cmp}
use Rattle.pep_clause.proofs.LeastCut.{end-below_none}
use Rattle.pep_clause.specs.VersionSet.{IsNormal, Range, is_in}

-- below at a later part of a chain is below in the chain
behind : (r x y : Ordering) → (x ≡ Less → y ≡ Less) → ordering_then r x ≡ Less →
    ordering_then r y ≡ Less
behind Less x y f e = refl
behind Equal x y f e = f e
behind Greater x y f e = cc e

-- what ties does not decide
then_tied : (r x : Ordering) → r ≡ Equal → ordering_then r x ≡ x
then_tied Less x e = cc e
then_tied Equal x e = refl
then_tied Greater x e = cc e

-- below by the first of two parts
by_first : (x y a b : Ordering) → (x ≡ Less → y ≡ Less) → (a ≡ Less → ⊥) →
    ordering_then x a ≡ Less → ordering_then y b ≡ Less
by_first Less y a b f g e = rw (f refl) refl
by_first Equal y a b f g e = absurd (g e)
by_first Greater y a b f g e = cc e

same_itself : (n : ℕ) → nat_cmp n n ≡ Equal
same_itself = tied_itself nat_cmp_total

-- ---- past a release: a longer release

-- zeros, as many as the list has numbers, and a 1
abbrev zeros_and_one : List ℕ → List ℕ
zeros_and_one [] = 1 ∷ []
zeros_and_one (n ∷ rest) = 0 ∷ zeros_and_one rest

-- the release, zeros where the other one is longer, and a 1
abbrev lengthened : List ℕ → List ℕ → List ℕ
lengthened [] other = zeros_and_one other
lengthened (m ∷ rest) [] = m ∷ lengthened rest []
lengthened (m ∷ rest) (n ∷ more) = m ∷ lengthened rest more

one_above : (other : List ℕ) → release_cmp (zeros_and_one other) [] ≡ Greater
one_above [] = refl
one_above (n ∷ rest) = one_above rest

-- it is above the release
lengthened-above : (release other : List ℕ) → release_cmp (lengthened release other) release
    ≡ Greater
lengthened-above [] other = one_above other
lengthened-above (m ∷ rest) [] =
    then_tied (nat_cmp m m) _ (same_itself m) ∙ lengthened-above rest []
lengthened-above (m ∷ rest) (n ∷ more) =
    then_tied (nat_cmp m m) _ (same_itself m) ∙ lengthened-above rest more

-- and below the other, where the release is
lengthened-below : (release other : List ℕ) → release_cmp release other ≡ Less →
    release_cmp (lengthened release other) other ≡ Less
lengthened-below [] [] e = cc e
lengthened-below [] (n ∷ more) e =
    behind (nat_cmp 0 n) (release_cmp [] more) (release_cmp (zeros_and_one more) more)
    (lengthened-below [] more) e
lengthened-below (m ∷ rest) [] e =
    behind (nat_cmp m 0) (release_cmp rest []) (release_cmp (lengthened rest []) [])
    (lengthened-below rest []) e
lengthened-below (m ∷ rest) (n ∷ more) e =
    behind (nat_cmp m n) (release_cmp rest more) (release_cmp (lengthened rest more) more)
    (lengthened-below rest more) e

zeros_and_one-fit : (other : List ℕ) → AllByRecursion Fits (zeros_and_one other)
zeros_and_one-fit [] = (omega arith, tt)
zeros_and_one-fit (n ∷ rest) = (omega arith, zeros_and_one-fit rest)

lengthened-fit : (release other : List ℕ) → AllByRecursion Fits release →
    AllByRecursion Fits (lengthened release other)
lengthened-fit [] other h = zeros_and_one-fit other
lengthened-fit (m ∷ rest) [] h = (h.0, lengthened-fit rest [] h.1)
lengthened-fit (m ∷ rest) (n ∷ more) h = (h.0, lengthened-fit rest more h.1)

zeros_and_one-some : (other : List ℕ) → 0 < length (zeros_and_one other)
zeros_and_one-some [] = omega arith
zeros_and_one-some (n ∷ rest) = omega arith

lengthened-some : (release other : List ℕ) → 0 < length (lengthened release other)
lengthened-some [] other = zeros_and_one-some other
lengthened-some (m ∷ rest) [] = omega arith
lengthened-some (m ∷ rest) (n ∷ more) = omega arith

-- ---- after a version with a label: a longer label

-- zeros, as many as the word has letters and digits, and an `a`
abbrev zeros_and_letter : List ℕ → List ℕ
zeros_and_letter [] = 97 ∷ []
zeros_and_letter (b ∷ rest) = 48 ∷ zeros_and_letter rest

-- a letter is above a zero, and a digit not below one
letter_above : (b : ℕ) → is_ascii_lowercase b ≡ true → nat_cmp 48 b ≡ Less
letter_above b e = let above : 48 < b = grind (arith, nat_tests) in sym (nat_cmp_is 48 b Less above)

digit_above : (b : ℕ) → is_ascii_digit b ≡ true → 48 ≤ b
digit_above b e = grind (arith, nat_tests)

not_below_then : (b : ℕ) (r : Ordering) → 48 ≤ b → r ≡ Less → ordering_then (nat_cmp 48 b) r ≡ Less
not_below_then b r h e =
    elim (cases_order 48 b) [
      | inl same ↦ rw (sym (nat_cmp_is 48 b Equal same)) e
      | inr d ↦ elim d [
        | inl above ↦ rw (sym (nat_cmp_is 48 b Less above)) refl
        | inr below ↦ absurd (omega arith)
      ]
    ]

-- the list made so is below any word
zeros-below_word : (letters : List ℕ) → list_all is_word_byte letters ≡ true →
    list_any is_ascii_lowercase letters ≡ true
    → slice_cmp nat_cmp (zeros_and_letter letters) letters ≡ Less
zeros-below_word [] e f = cc f
zeros-below_word (b ∷ rest) e f = by_answer (is_ascii_lowercase b)
    (λ t. rw (letter_above b t) refl)
    (λ t.
    let bytes = and_parts (is_word_byte b) (list_all is_word_byte rest) e in
    not_below_then b (slice_cmp nat_cmp (zeros_and_letter rest) rest)
    (digit_above b (or_second (is_ascii_lowercase b) (is_ascii_digit b) t bytes.0))
    (zeros-below_word rest bytes.1 (or_second (is_ascii_lowercase b)
    (list_any is_ascii_lowercase rest) t f)))

-- it is a word
zeros_and_letter-bytes : (letters : List ℕ) → list_all is_word_byte (zeros_and_letter letters)
    ≡ true
zeros_and_letter-bytes [] = refl
zeros_and_letter-bytes (b ∷ rest) = zeros_and_letter-bytes rest

zeros_and_letter-letter : (letters : List ℕ) →
    list_any is_ascii_lowercase (zeros_and_letter letters) ≡ true
zeros_and_letter-letter [] = refl
zeros_and_letter-letter (b ∷ rest) = zeros_and_letter-letter rest

zeros_and_letter-word : (letters : List ℕ) → IsTrue (is_word (zeros_and_letter letters))
zeros_and_letter-word letters =
    λ i. zeros_and_letter-bytes letters i && zeros_and_letter-letter letters i

-- the segment that the first label goes on with: below the segment that the other one goes on with,
-- if it does
abbrev next_letters : List Segment → List Segment → List ℕ
next_letters [] [] = 97 ∷ []
next_letters [] (number n ∷ more) = 97 ∷ []
next_letters [] (word letters ∷ more) = zeros_and_letter letters
next_letters (s ∷ rest) [] = 97 ∷ []
next_letters (s ∷ rest) (t ∷ more) = next_letters rest more

abbrev continued : List Segment → List Segment → List Segment
continued label other = label ++ (word (next_letters label other) ∷ [])

-- the label made so is above the label
longer-above : (label : List Segment) (s : Segment) →
    slice_cmp segment_cmp (label ++ (s ∷ [])) label ≡ Greater
longer-above [] s = refl
longer-above (t ∷ rest) s =
    then_tied (segment_cmp t t) _ (tied_itself segment_total t) ∙ longer-above rest s

-- and below the other, where the label is
continued-below : (label other : List Segment) → AllByRecursion IsSegment other →
    slice_cmp segment_cmp label other ≡ Less
    → slice_cmp segment_cmp (continued label other) other ≡ Less
continued-below [] [] h e = cc e
continued-below [] (number n ∷ more) h e = refl
continued-below [] (word letters ∷ more) h e =
    let parts =
    and_parts (list_all is_word_byte letters) (list_any is_ascii_lowercase letters) h.0 in
    rw (zeros-below_word letters parts.0 parts.1) refl
continued-below (s ∷ rest) [] h e = cc e
continued-below (s ∷ rest) (t ∷ more) h e =
    behind (segment_cmp s t) (slice_cmp segment_cmp rest more)
    (slice_cmp segment_cmp (continued rest more) more) (continued-below rest more h.1) e

next_letters-word : (label other : List Segment) → IsTrue (is_word (next_letters label other))
next_letters-word [] [] = refl
next_letters-word [] (number n ∷ more) = refl
next_letters-word [] (word letters ∷ more) = zeros_and_letter-word letters
next_letters-word (s ∷ rest) [] = refl
next_letters-word (s ∷ rest) (t ∷ more) = next_letters-word rest more

all-append : {A : Type 0} (P : A → Type 0) (xs ys : List A) → AllByRecursion P xs →
    AllByRecursion P ys → AllByRecursion P (xs ++ ys)
all-append P [] ys h g = g
all-append P (x ∷ xs) ys h g = (h.0, all-append P xs ys h.1 g)

-- ---- the version between

-- a release behind all that is of the release, and a label behind the version's own
abbrev later_release : Prefix → Cut → Version
later_release r d =
    final_version (record {
      epoch = r.epoch;
      release =
          lengthened r.release (cut_version d).release;
    })

abbrev later_label : Version → Cut → Version
later_label v d = record v { label = continued v.label (cut_version d).label }

later_release-version : (r : Prefix) (d : Cut) → IsVersion (final_version r) →
    IsVersion (later_release r d)
later_release-version r d h = record {
  release = lengthened-some r.release (cut_version d).release;
  label = tt;
  numbers = record {
    epoch = h.numbers.epoch;
    release =
        lengthened-fit r.release (cut_version d).release h.numbers.release;
    pre = tt;
    post = tt;
    dev =
        tt;
    label = tt;
  };
}

later_label-version : (v : Version) (d : Cut) → IsVersion v → IsVersion (later_label v d)
later_label-version v d h = record {
  release = h.release;
  label = all-append IsSegment v.label _ h.label (
    next_letters-word v.label (cut_version d).label,
    tt,
  );
  numbers = record {
    epoch = h.numbers.epoch;
    release = h.numbers.release;
    pre = h.numbers.pre;
    post = h.numbers.post;
    dev = h.numbers.dev;
    label =
        all-append SegmentFits v.label _ h.numbers.label (tt, tt);
  };
}

stage_total : IsTotalOrder (then_cmp (on stage nat_cmp) (on pre_number nat_cmp))
stage_total = then_total (on_total stage nat_cmp_total) (on_total pre_number nat_cmp_total)

-- they are not under the first cut
later_release-above : (r : Prefix) (d : Cut) → is_under (past r) (later_release r d) ≡ false
later_release-above r d =
    is_under-cut_cmp (past r) (later_release r d)
    ∙ ap is_lt (then_tied (nat_cmp r.epoch r.epoch) _ (same_itself r.epoch)
    ∙ ap (λ (o : Ordering). ordering_then o Less) (lengthened-above r.release
    (cut_version d).release))

later_label-above : (v : Version) (d : Cut) → is_under (after v) (later_label v d) ≡ false
later_label-above v d = ap is_le (
    then_tied (place_cmp v v) _ (tied_itself place_total v)
    ∙ then_tied (ordering_then (nat_cmp (stage v) (stage v))
    (nat_cmp (pre_number v) (pre_number v))) _ (tied_itself stage_total v)
    ∙ then_tied (option_cmp nat_cmp v.post v.post) _ (tied_itself
    (options_total nat_cmp_total) v.post)
    ∙ then_tied (dev_cmp v.dev v.dev) _ (tied_itself dev_total v.dev)
    ∙ longer-above v.label (word (next_letters v.label (cut_version d).label)))

-- and they are below the other
later_release-below : (r : Prefix) (d : Cut) → cut_cmp (past r) d ≡ Less →
    cut_cmp (before (later_release r d)) d ≡ Less
later_release-below r (before w) e =
    behind (nat_cmp r.epoch w.epoch) _ _ (by_first (release_cmp r.release w.release)
    (release_cmp (lengthened r.release w.release) w.release) Greater _
    (lengthened-below r.release w.release) (λ g. cc g)) e
later_release-below r (after w) e =
    behind (nat_cmp r.epoch w.epoch) _ _ (by_first (release_cmp r.release w.release)
    (release_cmp (lengthened r.release w.release) w.release) Greater _
    (lengthened-below r.release w.release) (λ g. cc g)) e
later_release-below r (past s) e =
    behind (nat_cmp r.epoch s.epoch) _ _ (by_first (release_cmp r.release s.release)
    (release_cmp (lengthened r.release s.release) s.release) Equal _
    (lengthened-below r.release s.release) (λ g. cc g)) e
later_release-below r end e = refl

suffix-below : (v w : Version) → AllByRecursion IsSegment w.label → suffix_cmp v w ≡ Less
    → suffix_cmp (record v { label = continued v.label w.label }) w ≡ Less
suffix-below v w h =
    behind (ordering_then (nat_cmp (stage v) (stage w)) (nat_cmp (pre_number v) (pre_number w))) _ _
    (behind (option_cmp nat_cmp v.post w.post) _ _
    (behind (dev_cmp v.dev w.dev) _ _ (continued-below v.label w.label h)))

later_label-below : (v : Version) (d : Cut) → IsCut d → cut_cmp (after v) d ≡ Less →
    cut_cmp (before (later_label v d)) d ≡ Less
later_label-below v (before w) is e =
    behind (nat_cmp v.epoch w.epoch) _ _ (behind (release_cmp v.release w.release) _ _
    (by_first (suffix_cmp v w) _ Greater Equal (suffix-below v w is.0.label) (λ g. cc g))) e
later_label-below v (after w) is e =
    behind (nat_cmp v.epoch w.epoch) _ _ (behind (release_cmp v.release w.release) _ _
    (by_first (suffix_cmp v w) _ Equal Less (suffix-below v w is.0.label) (λ g. cc g))) e
later_label-below v (past s) is e = e
later_label-below v end is e = refl

under-below : (v : Version) (d : Cut) → cut_cmp (before v) d ≡ Less → is_under d v ≡ true
under-below v d e = is_under-cut_cmp d v ∙ ap is_lt e

-- between two cuts, one below the other, there is a version: not under the low cut, and under the
-- high one
pub between_cuts : (c d : Cut) → IsCut c → IsCut d → cut_cmp c d ≡ Less → (v : Version)
    × IsVersion v × (is_under c v ≡ false) × (is_under d v ≡ true)
between_cuts (before v) d is other e = (
  v,
  is.0,
  is_under-cut_cmp (before v) v ∙ not_below_itself cut_total (before v),
  under-below v d e,
)
between_cuts (after v) d is other e = (
  later_label v d,
  later_label-version v d is.0,
  later_label-above v d,
  under-below (later_label v d) d (later_label-below v d other e),
)
between_cuts (past r) d is other e = (
  later_release r d,
  later_release-version r d is.0,
  later_release-above r d,
  under-below (later_release r d) d (later_release-below r d e),
)
between_cuts end d is other e = cc (ap is_lt e, end-below_none d)

-- a normal list that has a range has a version
pub normal-has_version : (ranges : List Range) → IsNormal ranges → HasVersionUnlessEmpty ranges
normal-has_version [] n some = absurd (some refl)
normal-has_version (r ∷ rest) n some =
    let found = between_cuts r.low r.high n.spelled.0 n.spelled.1.0 n.increasing.0 in (
      found.0,
      found.1,
      and_not_or (is_under r.high found.0) (is_under r.low found.0)
          (is_in rest found.0) found.3 found.2,
    )
