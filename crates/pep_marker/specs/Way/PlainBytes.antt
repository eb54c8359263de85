-- The bytes that stand for themselves in a normalized name: the code's way.
use Rattle.std.specs.Prelude.{ℕ, ◌==◌, ◌&&◌, Bool}
use Rattle.std.specs.Char.{to_ascii_lowercase}
use Rattle.texts.specs.Bytes.{is_letter_or_digit}

-- a digit, or a letter in lower case
abbrev pub is_plain : ℕ → Bool
is_plain b = is_letter_or_digit b && to_ascii_lowercase b == b
