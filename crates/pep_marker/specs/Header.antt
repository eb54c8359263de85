-- The lines in front of a table's text, which name the environment in which the table was made.
use Rattle.std.specs.Prelude.{◌≡◌, ◌≢◌, ℕ, ◌+◌, List, ◌∷◌, ◌++◌, codes, map}
use Rattle.texts.specs.Lines.{line, written}
use Rattle.pep_marker.specs.declared.environment.Variable.{Variable}
use Rattle.pep_marker.specs.declared.environment.Variable.TheVariants.{Extra}
use Rattle.pep_marker.specs.declared.header.HeaderIn.{HeaderIn}
use Rattle.pep_marker.specs.declared.header.HeaderIn.TheVariants.{Missing, Own, Other, Bad}
use Rattle.pep_marker.specs.Environment.{EnvironmentParts, IsEnvironment, extra_in}
use Rattle.pep_marker.specs.Environment.{value_of, variable_name, variables}
use Rattle.pep_marker.specs.Name.{normalized}

-- the line of a variable with this text, without its end
abbrev pub named_line : Variable → List ℕ → List ℕ
named_line v x = codes "env " ++ variable_name v ++ codes "=" ++ x

-- what a header says of a variable: its text, but of `extra` the normal form, which is all that
-- markers see of it
abbrev pub header_value : EnvironmentParts → Variable → List ℕ
header_value e Extra = normalized (extra_in e)
header_value e v = value_of e v

abbrev pub header_line : EnvironmentParts → Variable → List ℕ
header_line e v = named_line v (header_value e v)

-- the form of the text stands on the first line
abbrev pub form_line : List ℕ
form_line = codes "pep-table 2"

-- the lines: the form, and each variable, in their order
abbrev pub header_lines : EnvironmentParts → List (List ℕ)
header_lines e = form_line ∷ map (header_line e) variables

abbrev pub header : EnvironmentParts → List ℕ
header e = written (header_lines e)

-- ---- the header that a text begins with

-- two lists of lines differ first at this number, counted from 1
pub data DifferAt : List (List ℕ) → List (List ℕ) → ℕ → Type 0 where
  here : {x y : List ℕ} {xs ys : List (List ℕ)} → x ≢ y → DifferAt (x ∷ xs) (y ∷ ys) 1
  further : {x y : List ℕ} {xs ys : List (List ℕ)} {n : ℕ} → x ≡ y → DifferAt xs ys n →
      DifferAt (x ∷ xs) (y ∷ ys) (n + 1)

-- What stands in front of a text, seen from an environment: no header begins there; or its own
-- stands there; or that of another environment, with the first line that differs; or a header
-- begins which no environment has.
abbrev pub FindsHeader : EnvironmentParts → List ℕ → HeaderIn → Type 0
FindsHeader e x Missing = (rest : List ℕ) → ¬ (x ≡ line form_line ++ rest)
FindsHeader e x (Own rest) = x ≡ header e ++ rest.now
FindsHeader e x (Other n rest) = (f : EnvironmentParts) × IsEnvironment f
    × (x ≡ header f ++ rest.now) × DifferAt (header_lines e) (header_lines f) n
FindsHeader e x (Bad rest) = ((behind : List ℕ) × (x ≡ line form_line ++ behind))
    × ((f : EnvironmentParts) (behind : List ℕ) → IsEnvironment f → ¬ (x ≡ header f ++ behind))
