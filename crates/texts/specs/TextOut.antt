-- What is kept where a text is written part by part.
use Rattle.std.specs.Prelude.{◌≡◌, ℕ, List, ◌++◌}

-- the text is what it was, with a part behind it at most
abbrev pub Extends : List ℕ → List ℕ → Type 0
Extends old new = (part : List ℕ) × (new ≡ old ++ part)
