-- THE CODE'S WAY, and no part of any meaning: the first bytes of a text as a number, whose order is that of texts.
use Rattle.std.specs.Prelude.{ℕ, zero, suc, ◌+◌, ◌*◌, List, [], ◌∷◌}

-- the first byte, 0 where there is none
abbrev pub first : List ℕ → ℕ
first [] = 0
first (b ∷ x) = b

-- what is behind the first byte
abbrev pub behind : List ℕ → List ℕ
behind [] = []
behind (b ∷ x) = x

-- a number with so many first bytes of a text as its further digits
abbrev pub with_digits : ℕ → ℕ → List ℕ → ℕ
with_digits zero n x = n
with_digits (suc k) n x = with_digits k (n * 256 + first x) (behind x)

-- the first eight bytes as a number
abbrev pub head_of : List ℕ → ℕ
head_of x = with_digits 8 0 x
