-- What a requirement adds to a table.
use Rattle.std.specs.Prelude.{◌≡◌, ◌≢◌, ℕ, ◌&&◌, Bool, true, false, List, [], ◌∷◌, Some}
use Rattle.std.specs.Prelude.{◌+◌, ◌++◌, All, IsTrue, length, unwrap_or}
use Rattle.std.specs.List.{filter_map, list_all}
use Rattle.specifiers.specs.Clause.{Clause, demanded_text}
use Rattle.pep_clause.specs.Cut.{Cut, IsCut}
use Rattle.pep_clause.specs.OperatorTable.{set_of}
use Rattle.specifiers.specs.Valid.{IsValidClause}
use Rattle.pep_clause.specs.VersionSet.{IsNormal, Range, all_versions, is_point}
use Rattle.pep_marker.specs.Environment.{EnvironmentParts}
use Rattle.pep_marker.specs.Name.{IsNormalName}
use Rattle.pep_require.specs.Requirement.{RequirementParts, TargetParts, bounds, direct}
use Rattle.pep_require.specs.Requirement.{HasDefinedMarker, HasUndefinedMarker, MarkerSays}
use Rattle.demands.specs.declared.fault.TableFault.{TableFault}
use Rattle.demands.specs.declared.fault.TableFault.TheVariants.{Undefined}
use Rattle.demands.specs.Join.{IsUnion}
use Rattle.demands.specs.Table.{EntryParts, IsValidTable, TableParts, entry_at, is_url_text}

-- the clauses of a target, the texts of its URL, and the texts that its clauses demand
abbrev pub target_clauses : TargetParts → List Clause
target_clauses (bounds cs) = cs
target_clauses (direct u) = []

abbrev pub target_urls : TargetParts → List (List ℕ)
target_urls (bounds cs) = []
target_urls (direct u) = u.text ∷ []

abbrev pub texts_of : List Clause → List (List ℕ)
texts_of cs = filter_map demanded_text cs

-- the ranges whose points are points of these ranges and of the set of each clause
pub record MeetsClauses (old : List Range) (cs : List Clause) (new : List Range) : Type 0 where
  pub normal : IsNormal new
  pub points : (cut : Cut) → IsCut cut →
      is_point new cut ≡ is_point old cut && list_all (λ c. is_point (set_of c) cut) cs

-- the entry with what the requirement demands besides
pub record TakesEntry (old : EntryParts) (r : RequirementParts) (new : EntryParts) : Type 0 where
  pub extras : IsUnion old.extras r.extras new.extras
  pub urls : IsUnion old.urls (target_urls r.target) new.urls
  pub texts : IsUnion old.texts (texts_of (target_clauses r.target)) new.texts
  pub versions : MeetsClauses old.versions (target_clauses r.target) new.versions

-- what the requirement demands can stand in a table
pub record HasValidParts (r : RequirementParts) : Type 0 where
  pub name : IsNormalName r.name
  pub extras : All IsNormalName r.extras
  pub urls : All (λ u. IsTrue (is_url_text u)) (target_urls r.target)
  pub clauses : All IsValidClause (target_clauses r.target)

-- the entry of a name of which nothing more is demanded
abbrev pub bare_entry : EntryParts
bare_entry = record { extras = []; urls = []; texts = []; versions = all_versions }

-- the table with what the requirement demands besides
pub record TakesRequirement (old : TableParts) (r : RequirementParts) (new : TableParts) : Type 0
  where
    pub parts : HasValidParts r
    pub valid : IsValidTable new
    pub others : (name : List ℕ) → name ≢ r.name → entry_at new name ≡ entry_at old name
    pub own : (e : EntryParts) × (entry_at new r.name ≡ Some e)
        × TakesEntry (unwrap_or (entry_at old r.name) bare_entry) r e

abbrev pub TakesIf : Bool → TableParts → RequirementParts → TableParts → Type 0
TakesIf true old r new = TakesRequirement old r new
TakesIf false old r new = old ≡ new

-- .. and of those requirements in the list that apply, each of which has a marker that is defined
abbrev pub TakesApplying : EnvironmentParts → TableParts → List RequirementParts → TableParts →
    Type 0
TakesApplying e old [] new = old ≡ new
TakesApplying e old (r ∷ rs) new = (mid : TableParts) × (taken : Bool)
    × MarkerSays e r.marker (Some taken) × TakesIf taken old r mid × TakesApplying e mid rs new

-- the fault names the first requirement, counted from 1, whose marker is undefined
pub record IsFirstUndefined (e : EnvironmentParts) (rs : List RequirementParts) (fault : TableFault) :
    Type 0 where
  pub before : List RequirementParts
  pub first : RequirementParts
  pub behind : List RequirementParts
  pub whole : rs ≡ before ++ first ∷ behind
  pub defined : All (HasDefinedMarker e) before
  pub undefined : HasUndefinedMarker e first
  pub is : fault ≡ Undefined (length before + 1)
