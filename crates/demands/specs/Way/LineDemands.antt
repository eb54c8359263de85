-- What the parts of one line demand of a package, part by part.
use Rattle.std.specs.Prelude.{◌≡◌, ℕ, List, [], ◌∷◌, All, IsTrue, None}
use Rattle.specifiers.specs.Clause.{Clause, demanded_text}
use Rattle.specifiers.specs.Valid.{IsValidClause}
use Rattle.pep_clause.specs.OperatorTable.{set_of}
use Rattle.pep_clause.specs.VersionSet.{Range}
use Rattle.pep_marker.specs.Name.{IsNormalName}
use Rattle.pep_require.specs.Requirement.{RequirementParts, UrlParts, direct}
use Rattle.pep_require.specs.Way.Sink.{Adds, AddsClauses, AddsTarget, with_extra}
use Rattle.demands.specs.Gathering.{TakesEntry, bare_entry, target_clauses, target_urls}
use Rattle.demands.specs.Table.{EntryParts, is_url_text}

-- what the requirement demands, whatever its name and its marker, is the entry, and can stand in a table
pub record DemandsEntry (r : RequirementParts) (e : EntryParts) : Type 0 where
  pub extras : All IsNormalName r.extras
  pub urls : All (λ u. IsTrue (is_url_text u)) (target_urls r.target)
  pub clauses : All IsValidClause (target_clauses r.target)
  pub demands : TakesEntry bare_entry r e

-- whatever requirement demands the old entry, demands the new one with this extra besides
abbrev pub AddsExtra : List ℕ → EntryParts → EntryParts → Type 0
AddsExtra n old new = Adds (λ r. DemandsEntry r old) (λ r. DemandsEntry r new) (with_extra n)

-- .. with this clause besides, where it has no URL
abbrev pub AddsClause : Clause → EntryParts → EntryParts → Type 0
AddsClause c old new = AddsClauses (λ r. DemandsEntry r old) (λ r. DemandsEntry r new) (c ∷ [])

-- .. with this URL, where it has no clause
abbrev pub AddsUrl : UrlParts → EntryParts → EntryParts → Type 0
AddsUrl u old new = AddsTarget (λ r. DemandsEntry r old) (λ r. DemandsEntry r new) (direct u)

-- the clause demands the versions in these ranges, and no text
pub record DemandsRanges (c : Clause) (ranges : List Range) : Type 0 where
  pub valid : IsValidClause c
  pub no_text : demanded_text c ≡ None
  pub versions : ranges ≡ set_of c
