-- What a text spells is a version.
use Rattle.std.proofs.Common.{◌≡◌, ◌<◌, ℕ, true, false, List, [], ◌∷◌, length, map}
use Rattle.std.proofs.Common.{refl, sym, subst, arith, inl, inr}
use Rattle.std.proofs.lemmas.Bool.{cases_Bool}
use Rattle.std.specs.Char.{is_ascii_digit, is_ascii_lowercase}
use Rattle.std.specs.List.{AllByRecursion, list_all, list_any}
use Rattle.std.specs.Str.Parse.{digits_value}
use Rattle.texts.proofs.Connectives.{and_first, and_second, or-true}
use Rattle.pep_version.specs.Spelling.{LabelSpelling, Spells, dotted_parts, is_run, segment_of_run}
use Rattle.pep_version.specs.Spelling.{separated_parts}
use Rattle.pep_version.specs.Version.{IsSegment, IsVersion, Segment, Version, is_word, is_word_byte}

letter-or-digit : (b : ℕ) → is_word_byte b ≡ true → is_ascii_digit b ≡ false →
    is_ascii_lowercase b ≡ true
letter-or-digit b h n = grind arith

some-letter : (run : List ℕ) → list_all is_word_byte run ≡ true →
    list_all is_ascii_digit run ≡ false → list_any is_ascii_lowercase run ≡ true
some-letter [] h n = cc
some-letter (b ∷ rest) h n = elim (cases_Bool (is_ascii_digit b)) [
  | inl digit ↦
      let more =
      some-letter rest (and_second (is_word_byte b) (list_all is_word_byte rest) h)
      (rw digit at n) in
      rw more (or-true (is_ascii_lowercase b))
  | inr other ↦ rw (letter-or-digit b (and_first (is_word_byte b) (list_all is_word_byte rest) h)
      other) refl
]

run-bytes : (run : List ℕ) → is_run run ≡ true → list_all is_word_byte run ≡ true
run-bytes [] h = cc
run-bytes (b ∷ rest) h = h

run-segment : (run : List ℕ) → is_run run ≡ true → IsSegment (segment_of_run run)
run-segment run h = elim (cases_Bool (list_all is_ascii_digit run)) [
  | inl digits ↦ rw digits tt
  | inr other ↦
      let bytes = run-bytes run h in
      let letter = some-letter run bytes other in
      let both : is_word run ≡ true = rw (bytes, letter) refl in
      rw other both
]

pub runs-segments : (runs : List (List ℕ)) → list_all is_run runs ≡ true →
    AllByRecursion IsSegment (map segment_of_run runs)
runs-segments [] h = tt
runs-segments (run ∷ runs) h = (
  run-segment run (and_first (is_run run) (list_all is_run runs) h),
  runs-segments runs (and_second (is_run run) (list_all is_run runs) h),
)

-- a text has a part
pub some-part : (text : List ℕ) → 0 < length (map (digits_value 10) (dotted_parts text))
some-part [] = omega arith
some-part (b ∷ rest) = grind (arith)

label-segments : (text : List ℕ) (label : List Segment) → LabelSpelling text label →
    AllByRecursion IsSegment label
label-segments [] label h = subst (AllByRecursion IsSegment) (sym h) tt
label-segments (b ∷ text) label h =
    subst (AllByRecursion IsSegment) (sym h.2) (runs-segments (separated_parts text) h.1)

-- what a text spells is a version, where its numbers fit
pub spelled-version : (text : List ℕ) (v : Version) → Spells text v → IsVersion v
spelled-version text v spells = record {
  release = subst (λ (release : List ℕ). 0 < length release) (sym spells.0.release_is.1)
      (some-part spells.0.release);
  label = label-segments spells.0.label v.label spells.0.label_is;
  numbers = spells.1;
}
