-- The lines of a header, of some variables.
use Rattle.std.specs.Prelude.{◌≡◌, ℕ, ◌+◌, ◌≤◌, ⊤, Bool, true, false, IsTrue, List, [], ◌∷◌, ◌++◌, map}
use Rattle.std.specs.List.{AllZip}
use Rattle.texts.specs.Lines.{written}
use Rattle.pep_marker.specs.declared.environment.Variable.{Variable}
use Rattle.pep_marker.specs.declared.environment.Variable.TheVariants.{Extra}
use Rattle.pep_marker.specs.declared.header.HeaderIn.{HeaderIn}
use Rattle.pep_marker.specs.declared.header.HeaderIn.TheVariants.{Missing, Own, Other, Bad}
use Rattle.pep_marker.specs.Environment.{EnvironmentParts, is_value}
use Rattle.pep_marker.specs.Name.{normalized}
use Rattle.pep_marker.specs.Header.{DifferAt, header_line, named_line}

-- a text that a header may have of a variable
abbrev pub IsHeaderValue : Variable → List ℕ → Type 0
IsHeaderValue Extra x = IsTrue (is_value x) × (normalized x ≡ x)
IsHeaderValue v x = IsTrue (is_value x)

abbrev pub named_lines : List Variable → List (List ℕ) → List (List ℕ)
named_lines [] xs = []
named_lines (v ∷ vs) [] = []
named_lines (v ∷ vs) (x ∷ xs) = named_line v x ∷ named_lines vs xs

-- what stands in front of a text where the lines of these variables are due
abbrev pub FindsLines : EnvironmentParts → List Variable → List ℕ → HeaderIn → Type 0
FindsLines e vs x Missing = ⊥
FindsLines e vs x (Own rest) = x ≡ written (map (header_line e) vs) ++ rest.now
FindsLines e vs x (Other n rest) = (xs : List (List ℕ)) × AllZip IsHeaderValue vs xs
    × (x ≡ written (named_lines vs xs) ++ rest.now)
    × DifferAt (map (header_line e) vs) (named_lines vs xs) n
FindsLines e vs x (Bad rest) = (xs : List (List ℕ)) (behind : List ℕ) → AllZip IsHeaderValue vs xs →
    ¬ (x ≡ written (named_lines vs xs) ++ behind)

-- .. and where a line stands in front of it, which is the one that is due or another
abbrev pub found_behind : Bool → HeaderIn → HeaderIn
found_behind true (Own rest) = Own rest
found_behind true (Other n rest) = Other (n + 1) rest
found_behind false (Own rest) = Other 1 rest
found_behind false (Other n rest) = Other 1 rest
found_behind b (Bad rest) = Bad rest
found_behind b Missing = Missing

-- a line that differs is one of so many
abbrev pub IsWithin : ℕ → HeaderIn → Type 0
IsWithin m (Other n rest) = n ≤ m
IsWithin m _ = ⊤
