-- What refuses edits: at one input, the clause of the function and what the turned body gives there.
use Rattle.std.proofs.Common.{◌≡◌, ℕ, zero, suc, ◌++◌, List, [], ◌∷◌, ap, arith, get_or, length, true}
use Rattle.std.specs.Prelude.{Contains}
use Rattle.std.specs.List.{dedup, list_all, prefix_len, suffix_len}
use Rattle.std.specs.List.Sorted.{IsSortedBy}
use Rattle.std.specs.Ordering.{is_lt}
use Rattle.texts.specs.Way.Arena.{same_text, text_cmp}
use Rattle.texts.specs.Bytes.{is_blank_byte, is_clause_byte, is_letter_or_digit, is_name_byte}
use Rattle.texts.specs.Runs.{without_leading_blanks, without_outer_blanks}
use Rattle.texts.specs.Space.{without_trailing_space, trimmed}

-- a text of one byte
abbrev one : ℕ → List ℕ
one b = b ∷ []

-- texts of nine bytes, with the same eight in front
abbrev eight_and : ℕ → List ℕ
eight_and b = 97 ∷ 97 ∷ 97 ∷ 97 ∷ 97 ∷ 97 ∷ 97 ∷ 97 ∷ b ∷ []

-- "aaaaaaaab" and "aaaaaaaac"
pub Arena_dedup-by_the_heads : ¬ (eight_and 98 ∷ [] ≡ dedup same_text (eight_and 98 ∷ eight_and 99 ∷ []))
Arena_dedup-by_the_heads e = cc e

-- "a"
pub Arena_dedup-none_left : ¬ ([] ≡ one 97 ∷ [])
Arena_dedup-none_left e = cc e

-- "aaaaaaaab", and "aaaaaaaac" that is looked for
pub Arena_has-by_the_head : ¬ Contains (eight_and 98 ∷ []) (eight_and 99)
Arena_has-by_the_head (zero, below, e) =
    let last : get_or (eight_and 98) 8 0 ≡ get_or (eight_and 99) 8 0 = ap (λ x. get_or x 8 0) e in
    absurd (omega (arith, last))
Arena_has-by_the_head (suc i, below, e) = absurd (omega (arith, below))

-- no text
pub Arena_len-one_more : ¬ (1 ≡ length {A = List ℕ} [])
Arena_len-one_more e = cc e

-- "b" behind "a", which fills the list
pub Arena_push-emptied_where_it_fails : ¬ (one 98 ∷ [] ≡ (one 97 ∷ []) ++ one 98 ∷ [])
Arena_push-emptied_where_it_fails e = cc e

-- "a" behind no text
pub Arena_push-of_no_length : ¬ ([] ∷ [] ≡ [] ++ one 97 ∷ [])
Arena_push-of_no_length e = cc e

-- "aaaaaaaac" and "aaaaaaaab"
pub Arena_sort-by_the_heads : ¬ IsSortedBy (λ x y. is_lt (text_cmp x y)) (eight_and 99 ∷ eight_and 98 ∷ [])
Arena_sort-by_the_heads up = cc (up 0 [] (omega arith) (omega arith))

-- the second of "a" and ""
pub Arena_text-the_first : ¬ (one 97 ≡ get_or (one 97 ∷ [] ∷ []) 1 [])
Arena_text-the_first e = cc e

-- "a" behind no text
pub String_put_str-nothing : ¬ ([] ≡ [] ++ one 97)
String_put_str-nothing e = cc e

-- " a"
pub blank_end-in_front : ¬ (1 ≡ suffix_len is_blank_byte (32 ∷ 97 ∷ []))
blank_end-in_front e = cc e

-- " a "
pub blank_run-counts_all : ¬ (2 ≡ prefix_len is_blank_byte (32 ∷ 97 ∷ 32 ∷ []))
blank_run-counts_all e = cc e

-- "a "
pub has_clause_bytes-some : ¬ (true ≡ list_all is_clause_byte (97 ∷ 32 ∷ []))
has_clause_bytes-some e = cc e

-- "a a"
pub name_run-counts_all : ¬ (2 ≡ prefix_len is_name_byte (97 ∷ 32 ∷ 97 ∷ []))
unfolding is_letter_or_digit
name_run-counts_all e = cc e

-- " a"
pub stripped-white_space_kept : ¬ (32 ∷ [] ≡ without_leading_blanks (32 ∷ 97 ∷ []))
stripped-white_space_kept e = cc e

-- " a"
pub trimmed-behind_alone : ¬ (32 ∷ 97 ∷ [] ≡ trimmed (32 ∷ 97 ∷ []))
trimmed-behind_alone e = cc e

-- "a "
pub without_outer_blanks-end_kept : ¬ (97 ∷ 32 ∷ [] ≡ without_outer_blanks (97 ∷ 32 ∷ []))
without_outer_blanks-end_kept e = cc e

-- "a", tab
pub without_trailing_space-tab_kept : ¬ (97 ∷ 9 ∷ [] ≡ without_trailing_space (97 ∷ 9 ∷ []))
without_trailing_space-tab_kept e = cc e
