-- Codes of values as bytes whose byte order is the order of the values: what is asked of a code.
use Rattle.std.specs.Prelude.{◌≡◌, ℕ, List, [], ◌∷◌, ◌++◌}
use Rattle.std.specs.Cmp.Lexicographic.{slice_cmp}
use Rattle.std.specs.Ordering.{nat_cmp}
use Rattle.std.specs.declared.cmp.Ordering.{Ordering}

-- byte order: the first byte that differs decides, and else the shorter list is below
abbrev pub byte_cmp : List ℕ → List ℕ → Ordering
byte_cmp = slice_cmp nat_cmp

-- the first list begins the second
abbrev pub Begins : List ℕ → List ℕ → Type 0
Begins xs ys = (more : List ℕ) × (xs ++ more ≡ ys)

-- A code of the values of which P holds keeps the order R: byte order is R, and where one value's bytes begin
-- another's, they are the same bytes.
pub record KeepsOrder {A : Type 0} (P : A → Type 0) (R : A → A → Ordering) (code : A → List ℕ) : Type 0 where
  pub order : (x y : A) → P x → P y → byte_cmp (code x) (code y) ≡ R x y
  pub apart : (x y : A) → P x → P y → Begins (code x) (code y) → code x ≡ code y

-- the codes of a list's elements one behind the other, and 0 at the end
abbrev pub ended : {A : Type 0} → (A → List ℕ) → List A → List ℕ
ended code [] = 0 ∷ []
ended code (x ∷ xs) = code x ++ ended code xs
