-- Runs of bytes of one class, and white space in lines, requirements and markers (PEP 508,
-- "Grammar").
use Rattle.std.specs.Prelude.{ℕ, ◌-◌, Bool, false, IsTrue, List, [], ◌∷◌, length, take}
use Rattle.std.specs.Prelude.{drop}
use Rattle.std.specs.List.{list_all, prefix_len, suffix_len}
use Rattle.texts.specs.Bytes.{is_blank_byte}

-- the list begins with an element of the class
abbrev pub begins : (ℕ → Bool) → List ℕ → Bool
begins test [] = false
begins test (b ∷ x) = test b

-- the text is white space alone
abbrev pub IsBlank : List ℕ → Type 0
IsBlank x = IsTrue (list_all is_blank_byte x)

-- the text from its first character on that is no white space
abbrev pub without_leading_blanks : List ℕ → List ℕ
without_leading_blanks x = drop (prefix_len is_blank_byte x) x

-- the text without the white space at both ends
abbrev pub without_outer_blanks : List ℕ → List ℕ
without_outer_blanks x =
    let y = without_leading_blanks x in take (length y - suffix_len is_blank_byte y) y
