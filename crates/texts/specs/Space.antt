-- White space at the ends of a text ("Leading and Trailing Whitespace", PEP 440).
use Rattle.std.specs.Prelude.{ℕ, ◌&&◌, List, [], ◌∷◌, if◌then◌else◌}
use Rattle.texts.specs.Bytes.{is_white_space}
use Rattle.texts.specs.Lists.{is_empty}

-- a text without the white space at its front
abbrev pub without_leading_space : List ℕ → List ℕ
without_leading_space [] = []
without_leading_space (b ∷ rest) = if is_white_space b then without_leading_space rest else b ∷ rest

-- a text without the white space at its end
abbrev pub without_trailing_space : List ℕ → List ℕ
without_trailing_space [] = []
without_trailing_space (b ∷ rest) =
    if is_white_space b && is_empty (without_trailing_space rest) then []
    else b ∷ without_trailing_space rest

-- a text without the white space at both ends
abbrev pub trimmed : List ℕ → List ℕ
trimmed text = without_trailing_space (without_leading_space text)
