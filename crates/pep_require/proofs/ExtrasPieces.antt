-- One extra: a name with white space round it.
use Rattle.std.proofs.Common.{◌≡◌, ℕ, ◌==◌, Bool, true, false, not, List, []}
use Rattle.std.proofs.Common.{◌∷◌, ◌++◌, length, take, drop, Some, None, refl, sym}
use Rattle.std.proofs.Common.{ap, ◌∙◌, arith, append_assoc, rules}
use Rattle.std.specs.Prelude.{if◌then◌else◌, ◌&&◌, ◌-◌, nat_lt, slice_index}
use Rattle.std.specs.List.{All, AllZip, join_with_byte, list_all, prefix_len, slice_split}
use Rattle.std.proofs.lemmas.Bool.Decides.{nat_tests}
use Rattle.std.proofs.lemmas.List.{take-append-drop}
use Rattle.std.proofs.lemmas.List.Elements.{All-cons}
use Rattle.std.proofs.lemmas.List.Folds.{list_all-append}
use Rattle.std.proofs.lemmas.List.Splits.{slice_split_at, slice_split_none}
use Rattle.std.proofs.lemmas.Option.{none-some, same_Some}
use Rattle.texts.proofs.Connectives.{and_first, and_second, by_answer}
use Rattle.pep_version.proofs.NormalTexts.{list_all-weaker}
use Rattle.texts.specs.Bytes.{is_letter_or_digit, is_name_byte}
use Rattle.pep_marker.specs.Name.{is_name, name_of, normalized}
use Rattle.texts.specs.Runs.{begins, without_leading_blanks}
use Rattle.texts.specs.Bytes.{is_blank_byte}
use Rattle.texts.proofs.RunLemmas.{all-rest, rest-all, rest-span, run-span}
use Rattle.pep_require.specs.Way.ExtrasParts.{NoExtra}
use Rattle.pep_require.specs.Reads.{IsExtra}
use Rattle.pep_require.proofs.BlankLemmas.{leading, leading_blank, leading_whole}

-- ---- names

blank_no_name : (b : ℕ) → is_blank_byte b ≡ true → is_name_byte b ≡ false
unfolding is_letter_or_digit
blank_no_name b h = grind (arith, nat_tests)

name_no_blank : (b : ℕ) → is_name_byte b ≡ true → is_blank_byte b ≡ false
name_no_blank b h = by_answer (is_blank_byte b) (λ e. cc (h, blank_no_name b e)) (λ e. e)

-- what is named is a name
named : (t : Bool) (y n : List ℕ) → (if t then Some y else None) ≡ Some n → t ≡ true
named true y n e = refl
named false y n e = absurd (none-some n e)

pub name_bytes : (x n : List ℕ) → name_of x ≡ Some n → list_all is_name_byte x ≡ true
name_bytes x n e =
    and_second (nat_lt 0 (length x)) (list_all is_name_byte x)
    (and_first (nat_lt 0 (length x) && list_all is_name_byte x)
    (is_letter_or_digit (slice_index x 0))
    (and_first (nat_lt 0 (length x) && list_all is_name_byte x
    && is_letter_or_digit (slice_index x 0)) (is_letter_or_digit (slice_index x (length x - 1)))
    (named (is_name x) (normalized x) n e)))

-- white space alone, and nothing, are no names
blank_name : (x n : List ℕ) → list_all is_blank_byte x ≡ true → name_of x ≡ Some n → ⊥
blank_name [] n h e = none-some n e
blank_name (b ∷ x) n h e =
    let blank = and_first (is_blank_byte b) (list_all is_blank_byte x) h in
    let byte = and_first (is_name_byte b) (list_all is_name_byte x) (name_bytes (b ∷ x) n e) in
    cc (byte, blank_no_name b blank)

-- ---- a piece is cut in one way

-- the name of the piece, and the white space behind it
abbrev pub extra_run : List ℕ → List ℕ
extra_run y = take (prefix_len is_name_byte y) y

abbrev pub behind_extra : List ℕ → List ℕ
behind_extra y = drop (prefix_len is_name_byte y) y

begins_off : (p q : ℕ → Bool) → ((b : ℕ) → p b ≡ true → q b ≡ false) → (x : List ℕ) →
    list_all p x ≡ true → begins q x ≡ false
begins_off p q off [] h = refl
begins_off p q off (b ∷ x) h = off b (and_first (p b) (list_all p x) h)

name_in_front : (x n after : List ℕ) → name_of x ≡ Some n →
    begins is_blank_byte (x ++ after) ≡ false
name_in_front [] n after e = absurd (none-some n e)
name_in_front (b ∷ x) n after e =
    name_no_blank b (and_first (is_name_byte b) (list_all is_name_byte x)
    (name_bytes (b ∷ x) n e))

pub extra_stripped : (piece n : List ℕ) (s : IsExtra piece n) →
    without_leading_blanks piece ≡ s.written ++ s.after
extra_stripped piece n s =
    ap without_leading_blanks (s.whole ∙ append_assoc s.before s.written s.after)
    ∙ rest-span is_blank_byte s.before (s.written ++ s.after) s.blanks.0
    (name_in_front s.written n s.after s.name)

pub extra_named : (piece n : List ℕ) (s : IsExtra piece n) →
    extra_run (without_leading_blanks piece) ≡ s.written
extra_named piece n s =
    ap extra_run (extra_stripped piece n s)
    ∙ run-span is_name_byte s.written s.after (name_bytes s.written n s.name)
    (begins_off is_blank_byte is_name_byte blank_no_name s.after s.blanks.1)

pub extra_ends : (piece n : List ℕ) (s : IsExtra piece n) →
    without_leading_blanks (behind_extra (without_leading_blanks piece)) ≡ []
extra_ends piece n s =
    ap (λ t. without_leading_blanks (behind_extra t)) (extra_stripped piece n s)
    ∙ ap without_leading_blanks (rest-span is_name_byte s.written s.after
    (name_bytes s.written n s.name)
    (begins_off is_blank_byte is_name_byte blank_no_name s.after s.blanks.1))
    ∙ rest-all is_blank_byte s.after s.blanks.1

pub one_extra : (piece n m : List ℕ) → IsExtra piece n → IsExtra piece m → n ≡ m
one_extra piece n m s t =
    let same : s.written ≡ t.written = sym (extra_named piece n s) ∙ extra_named piece m t in
    same_Some n m (sym s.name ∙ ap name_of same ∙ t.name)

-- what is cut so is an extra
pub extra_read : (piece n : List ℕ) → name_of (extra_run (without_leading_blanks piece)) ≡ Some n →
    without_leading_blanks (behind_extra (without_leading_blanks piece)) ≡ [] → IsExtra piece n
extra_read piece n e left =
    let y = without_leading_blanks piece in
    record {
      before = leading piece;
      written = extra_run y;
      after = behind_extra y;
      whole = leading_whole piece
          ∙ ap (λ t. leading piece ++ t) (sym (take-append-drop (prefix_len is_name_byte y) y))
          ∙ sym (append_assoc (leading piece) (extra_run y) (behind_extra y));
      blanks = (leading_blank piece, all-rest is_blank_byte (behind_extra y) left);
      name = e;
    }

pub no_blank_extra : (piece : List ℕ) → list_all is_blank_byte piece ≡ true → NoExtra piece
no_blank_extra piece h n s =
    blank_name (extra_run (without_leading_blanks piece)) n
    (ap (λ t. list_all is_blank_byte (extra_run t)) (rest-all is_blank_byte piece h))
    (ap name_of (extra_named piece n s) ∙ s.name)

-- ---- the bytes of a piece

abbrev pub all_but : ℕ → List ℕ → Bool
all_but c x = list_all (λ b. not (b == c)) x

pub both_all : (p : ℕ → Bool) (x y : List ℕ) → list_all p x ≡ true → list_all p y ≡ true →
    list_all p (x ++ y) ≡ true
both_all p x y h g = list_all-append p x y ∙ rw (h, g) refl

pub extra_bytes : (p : ℕ → Bool) → ((b : ℕ) → is_blank_byte b ≡ true → p b ≡ true) →
    ((b : ℕ) → is_name_byte b ≡ true → p b ≡ true) → (piece n : List ℕ) → IsExtra piece n →
    list_all p piece ≡ true
extra_bytes p blank name piece n s =
    ap (list_all p) s.whole
    ∙ both_all p (s.before ++ s.written) s.after
    (both_all p s.before s.written (list_all-weaker is_blank_byte p blank s.before s.blanks.0)
    (list_all-weaker is_name_byte p name s.written (name_bytes s.written n s.name)))
    (list_all-weaker is_blank_byte p blank s.after s.blanks.1)

blank_no_comma : (b : ℕ) → is_blank_byte b ≡ true → not (b == 44) ≡ true
blank_no_comma b h = grind (arith, nat_tests)

blank_no_end : (b : ℕ) → is_blank_byte b ≡ true → not (b == 93) ≡ true
blank_no_end b h = grind (arith, nat_tests)

name_no_comma : (b : ℕ) → is_name_byte b ≡ true → not (b == 44) ≡ true
unfolding is_letter_or_digit
name_no_comma b h = grind (arith, nat_tests)

name_no_end : (b : ℕ) → is_name_byte b ≡ true → not (b == 93) ≡ true
unfolding is_letter_or_digit
name_no_end b h = grind (arith, nat_tests)

pub blank_whole : (c : ℕ) (x : List ℕ) → ((b : ℕ) → is_blank_byte b ≡ true → not (b == c) ≡ true) →
    list_all is_blank_byte x ≡ true → all_but c x ≡ true
blank_whole c x off h = list_all-weaker is_blank_byte (λ b. not (b == c)) off x h

pub no_comma_in : (piece n : List ℕ) → IsExtra piece n → all_but 44 piece ≡ true
no_comma_in = extra_bytes (λ b. not (b == 44)) blank_no_comma name_no_comma

pub no_end_in : (piece n : List ℕ) → IsExtra piece n → all_but 93 piece ≡ true
no_end_in = extra_bytes (λ b. not (b == 93)) blank_no_end name_no_end

pub no_comma_in_blank : (x : List ℕ) → list_all is_blank_byte x ≡ true → all_but 44 x ≡ true
no_comma_in_blank x h = blank_whole 44 x blank_no_comma h

pub no_end_in_blank : (x : List ℕ) → list_all is_blank_byte x ≡ true → all_but 93 x ≡ true
no_end_in_blank x h = blank_whole 93 x blank_no_end h

-- ---- pieces between commas

not_told : (t : Bool) → not t ≡ true → t ≡ false
not_told true e = absurd (cc e)
not_told false e = refl

pub none_pass : (c : ℕ) (x : List ℕ) → all_but c x ≡ true → All (λ b. (b == c) ≡ false) x
none_pass c [] h = search rules
none_pass c (b ∷ x) h =
    All-cons (λ b. (b == c) ≡ false) b x
    (not_told (b == c) (and_first (not (b == c)) (all_but c x) h))
    (none_pass c x (and_second (not (b == c)) (all_but c x) h))

pub one_part : (x : List ℕ) → all_but 44 x ≡ true → slice_split (λ b. b == 44) x ≡ x ∷ []
one_part x h = slice_split_none (λ b. b == 44) x (none_pass 44 x h)

pub parts_joined : (piece n : List ℕ) (pieces ns : List (List ℕ)) → IsExtra piece n →
    AllZip IsExtra pieces ns →
    slice_split (λ b. b == 44) (join_with_byte 44 (piece ∷ pieces)) ≡ piece ∷ pieces
parts_joined piece n [] ns is are = one_part piece (no_comma_in piece n is)
parts_joined piece n (next ∷ pieces) [] is are = absurd are
parts_joined piece n (next ∷ pieces) (m ∷ ns) is are =
    slice_split_at (λ b. b == 44) piece 44 (join_with_byte 44 (next ∷ pieces))
    (none_pass 44 piece (no_comma_in piece n is)) refl
    ∙ ap (λ t. piece ∷ t) (parts_joined next m pieces ns are.0 are.1)

-- no `]` stands between them
pub no_end_joined : (piece n : List ℕ) (pieces ns : List (List ℕ)) → IsExtra piece n →
    AllZip IsExtra pieces ns → all_but 93 (join_with_byte 44 (piece ∷ pieces)) ≡ true
no_end_joined piece n [] ns is are = no_end_in piece n is
no_end_joined piece n (next ∷ pieces) [] is are = absurd are
no_end_joined piece n (next ∷ pieces) (m ∷ ns) is are =
    both_all (λ b. not (b == 93)) piece (44 ∷ join_with_byte 44 (next ∷ pieces))
    (no_end_in piece n is) (no_end_joined next m pieces ns are.0 are.1)
