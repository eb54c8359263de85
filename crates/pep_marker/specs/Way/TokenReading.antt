-- The token in front of a text, as code finds it: each with the number of bytes it is written in.
use Rattle.std.specs.Prelude.{ℕ, ◌+◌, ◌&&◌, ◌||◌, ◌==◌, Bool, not, nat_lt, List, [], ◌∷◌, length}
use Rattle.std.specs.Prelude.{take, drop, codes, bytes_eq, Option, Some, None, option_map}
use Rattle.std.specs.Prelude.{if◌then◌else◌}
use Rattle.std.specs.List.{prefix_len}
use Rattle.specifiers.specs.Clause.{operator_of, operator_text}
use Rattle.pep_marker.specs.Environment.{variable_of}
use Rattle.pep_marker.specs.Marker.{Token, open_parenthesis, close_parenthesis, and_word, or_word}
use Rattle.pep_marker.specs.Marker.{operand, operator, variable, text, version_operator, is_in}
use Rattle.pep_marker.specs.Marker.{is_not_in, is_quote, is_word_byte}
use Rattle.texts.specs.Runs.{begins}
use Rattle.texts.specs.Bytes.{is_blank_byte}

-- a byte that may stand between these quotes
abbrev pub is_quoted_byte : ℕ → ℕ → Bool
is_quoted_byte quote b = not (b == quote || b == 10 || b == 13)

-- what a word is, `not` apart
unfoldable pub word_of : List ℕ → Option Token
word_of word =
    if bytes_eq word (codes "and") then Some and_word
    else if bytes_eq word (codes "or") then Some or_word
    else if bytes_eq word (codes "in") then Some (operator is_in)
    else option_map (λ v. operand (variable v)) (variable_of word)

-- the longest run of bytes of words
abbrev pub word_run : List ℕ → List ℕ
word_run x = take (prefix_len is_word_byte x) x

-- how many bytes of white space and `in` stand behind a `not`
unfoldable pub in_behind : List ℕ → Option ℕ
in_behind x =
    let blanks = prefix_len is_blank_byte x in
    if nat_lt 0 blanks && bytes_eq (word_run (drop blanks x)) (codes "in")
    then Some (blanks + 2) else None

-- `not`, white space and `in`: three bytes and what is behind them
abbrev pub not_in_token : List ℕ → Option (Token × ℕ)
not_in_token x = option_map (λ n. (operator is_not_in, n + 3)) (in_behind (drop 3 x))

-- the token of a word, or of `not` and `in`
unfoldable pub word_token : List ℕ → Option (Token × ℕ)
word_token x =
    if bytes_eq (word_run x) (codes "not") then not_in_token x
    else option_map (λ t. (t, prefix_len is_word_byte x)) (word_of (word_run x))

-- the token of a text in quotes, from the byte behind the first one on
unfoldable pub text_token : ℕ → List ℕ → Option (Token × ℕ)
text_token quote x =
    let n = prefix_len (is_quoted_byte quote) x in
    if begins (λ b. b == quote) (drop n x) then Some (operand (text (take n x)), n + 2) else None

-- the token of a version operator
unfoldable pub operator_token : List ℕ → Option (Token × ℕ)
operator_token x =
    option_map (λ o. (operator (version_operator o), length (operator_text o))) (operator_of x)

-- the token in front of a text that does not begin with white space
unfoldable pub next_token : List ℕ → Option (Token × ℕ)
next_token [] = None
next_token (b ∷ x) =
    if is_word_byte b then word_token (b ∷ x)
    else if is_quote b then text_token b x
    else if b == 40 then Some (open_parenthesis, 1)
    else if b == 41 then Some (close_parenthesis, 1)
    else operator_token (b ∷ x)
