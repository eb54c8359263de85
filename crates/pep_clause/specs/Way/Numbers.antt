-- Numbers of releases, and releases, as they are written.
use Rattle.std.specs.Prelude.{◌≡◌, ℕ, Bool, List, Option, IfSome, ◌++◌}
use Rattle.pep_version.specs.Spelling.{NumberSpelling}
use Rattle.pep_version.specs.Text.{release_text}
use Rattle.pep_version.specs.Version.{Fits}
use Rattle.pep_clause.specs.Cut.{Cut, cut_text}
use Rattle.pep_clause.specs.PackedCut.{front_text}

-- the number stands in front of the text, and this behind it
pub record NumberFrom (x : List ℕ) (n : ℕ) (rest : List ℕ) : Type 0 where
  pub digits : List ℕ
  pub whole : x ≡ digits ++ rest
  pub spelled : NumberSpelling digits n
  pub fits : Fits n

-- what was found has the text that ends with the release and the rest
abbrev pub HasTextWith : Bool → List ℕ → List ℕ → Option Cut → Type 0
HasTextWith is_past r rest found = IfSome found (λ c. cut_text c ≡ front_text is_past ++ (release_text r ++ rest))
