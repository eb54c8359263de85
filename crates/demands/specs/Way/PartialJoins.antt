-- The versions of a package as the code keeps them: two cuts, and beside them what is left over and sets of which the join
-- counts. No meaning rests on this.
use Rattle.std.specs.Prelude.{List, [], ◌∷◌}
use Rattle.std.specs.List.{AllByRecursion}
use Rattle.pep_clause.specs.Cut.{Cut, IsCut}
use Rattle.pep_clause.specs.Way.Joined.{joined}
use Rattle.pep_clause.specs.OperatorTable.{range}
use Rattle.pep_clause.specs.VersionSet.{IsNormal, Range, all_versions}

-- what all the sets hold: every version, where there is none
abbrev pub joined_sets : List (List Range) → List Range
joined_sets [] = all_versions
joined_sets (s ∷ rest) = joined s (joined_sets rest)

abbrev pub AreNormal : List (List Range) → Type 0
AreNormal sets = AllByRecursion IsNormal sets

-- the versions between two cuts that are kept beside them
abbrev pub kept_versions : Cut → Cut → List Range → List Range
kept_versions low high beside = joined (range low high) beside

-- both cuts are in their one spelling, and what is kept beside them is a normal list
pub record AreKept (l h : Cut) (s : List Range) : Type 0 where
  pub low : IsCut l
  pub high : IsCut h
  pub beside : IsNormal s
