-- Classes of bytes.
use Rattle.std.specs.Prelude.{ℕ, ◌==◌, ◌||◌, Bool}
use Rattle.std.specs.Char.{is_ascii_alphanumeric}
use Rattle.std.specs.Int.{is_in_range}

-- space, tab, line feed, vertical tab, form feed, carriage return ("Leading and Trailing
-- Whitespace", PEP 440)
abbrev pub is_white_space : ℕ → Bool
is_white_space b = b == 32 || is_in_range 9 13 b

-- `-`, `_` or `.` ("Pre-release separators" and its kin, PEP 440; the same bytes separate the parts
-- of a project's name, PEP 503)
abbrev pub is_separator : ℕ → Bool
is_separator b = b == 45 || b == 95 || b == 46

-- an ASCII letter or digit
unfoldable pub is_letter_or_digit : ℕ → Bool
is_letter_or_digit b = is_ascii_alphanumeric b

-- a letter, a digit, or one of `-`, `_`, `.` (names, PEP 508)
abbrev pub is_name_byte : ℕ → Bool
is_name_byte b = is_letter_or_digit b || is_separator b

-- a byte that a clause may have behind its operator: a letter, a digit, or one of `-` `_` `.` `*`
-- `+` `!` ("Version specifiers", PEP 440)
abbrev pub is_clause_byte : ℕ → Bool
is_clause_byte b =
    is_ascii_alphanumeric b || b == 45 || b == 95 || b == 46 || b == 42 || b == 43 || b == 33

-- white space in lines, requirements and markers: a space or a tab ("Grammar", PEP 508)
abbrev pub is_blank_byte : ℕ → Bool
is_blank_byte b = b == 32 || b == 9
