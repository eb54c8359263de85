-- Lists.
use Rattle.std.specs.Prelude.{Bool, true, false, List, [], ◌∷◌}

-- the list has no element
abbrev pub is_empty : {A : Type 0} → List A → Bool
is_empty [] = true
is_empty (x ∷ xs) = false
