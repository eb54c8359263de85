-- A text that is split at one byte, part by part.
use Rattle.std.specs.Prelude.{ℕ, ◌==◌, List, [], Option, Some, None}
use Rattle.std.specs.Borrow.{Bor}
use Rattle.std.specs.List.{slice_split}

-- the parts of the text that is left, if any
abbrev pub left_parts : ℕ → Option (Bor (List ℕ)) → List (List ℕ)
left_parts byte None = []
left_parts byte (Some rest) = slice_split (λ b. b == byte) rest.now
