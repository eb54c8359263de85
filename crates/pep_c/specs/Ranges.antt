-- The versions that clauses admit, as ranges.
use Rattle.std.specs.Prelude.{◌≡◌, ℕ, ◌||◌, Bool, is_some, List, map}
use Rattle.std.specs.List.{concat, list_all}
use Rattle.texts.specs.Lines.{line}
use Rattle.pep_version.specs.Version.{IsVersion, Version}
use Rattle.specifiers.specs.Admits.{admits}
use Rattle.specifiers.specs.Clause.{Clause, demanded_text}
use Rattle.pep_clause.specs.VersionSet.{IsNormal, Range, is_in}
use Rattle.pep_table.specs.TableText.{range_text}
use Rattle.pep_c.specs.ClauseLists.{AreClauses}

-- the clause admits the version, or is one with `===`, which no range tells
abbrev pub admits_in_range : Clause → Version → Bool
admits_in_range c v = is_some (demanded_text c) || admits c v

-- the normal ranges of the versions that all these clauses admit, but those with `===`
pub record IsSetOfClauses (cs : List Clause) (set : List Range) : Type 0 where
  pub normal : IsNormal set
  pub versions : (v : Version) → IsVersion v → is_in set v ≡ list_all (λ c. admits_in_range c v) cs

-- .. of the clauses that the bytes write, each range on a line of its own
pub record AreRangeLines (bytes lines : List ℕ) : Type 0 where
  pub clauses : List Clause
  pub written : AreClauses bytes clauses
  pub set : List Range
  pub is_set : IsSetOfClauses clauses set
  pub are_lines : lines ≡ concat (map (λ r. line (range_text r)) set)
