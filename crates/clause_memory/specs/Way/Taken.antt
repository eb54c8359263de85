-- The clause in front of a text, as what it demands.
use Rattle.std.specs.Prelude.{ℕ, ◌==◌, ◌&&◌, Bool, not, List}
use Rattle.specifiers.specs.Clause.{Clause}
use Rattle.pep_clause.specs.VersionSet.{Range}
use Rattle.pep_marker.specs.Environment.{EnvironmentParts}
use Rattle.specifiers.specs.Front.{ClauseFrom}
use Rattle.pep_require.specs.Reads.{ReadsUrl}
use Rattle.pep_require.specs.Requirement.{MarkerSays, RequirementParts, UrlParts}
use Rattle.demands.specs.Way.LineDemands.{AddsClause, AddsUrl, DemandsEntry, DemandsRanges}
use Rattle.demands.specs.Table.{EntryParts}
use Rattle.clause_memory.specs.declared.sink.LineSoFar.{LineSoFar}

-- a clause stands in front of the text, and this behind it; of the line's demands the new ones are with it besides
pub record TakesFront (x rest : List ℕ) (old new : EntryParts) : Type 0 where
  pub clause : Clause
  pub found : ClauseFrom x clause rest
  pub adds : AddsClause clause old new

-- .. with the URL that is written so
pub record DemandsUrl (written : List ℕ) (old new : EntryParts) : Type 0 where
  pub url : UrlParts
  pub reads : ReadsUrl written url
  pub adds : AddsUrl url old new

-- what is kept of a line: what the parts so far demand, and whether their marker holds in the environment
pub record HoldsLine (e : EnvironmentParts) (line : LineSoFar) (p : RequirementParts) : Type 0 where
  pub demands : DemandsEntry p line.demands
  pub marker : MarkerSays e p.marker line.applies

-- ---- the code's way

-- the byte ends no clause
abbrev pub goes_on : ℕ → Bool
goes_on b = not (b == 44) && not (b == 59) && not (b == 41)

-- a clause that demands the versions in these ranges, and no text, stands in front of the text, and this behind it
pub record DemandsFront (x : List ℕ) (ranges : List Range) (rest : List ℕ) : Type 0 where
  pub clause : Clause
  pub found : ClauseFrom x clause rest
  pub demands : DemandsRanges clause ranges
