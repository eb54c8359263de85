-- The parts of a requirement, each on a line of its own.
use Rattle.std.specs.Prelude.{◌≡◌, ℕ, List, [], ◌∷◌, ◌++◌, codes, map, Option, Some, None}
use Rattle.specifiers.specs.Clause.{clause_text}
use Rattle.pep_marker.specs.Marker.{MarkerParts}
use Rattle.pep_marker.specs.MarkerText.{marker_text}
use Rattle.pep_require.specs.Reads.{Reads}
use Rattle.pep_require.specs.Requirement.{RequirementParts, TargetParts, bounds, direct}

-- a line: what stands on it, and the text of that
abbrev pub field : List ℕ → List ℕ → List ℕ
field word x = word ++ x ++ codes "\n"

-- a line for each text
abbrev pub fields : List ℕ → List (List ℕ) → List ℕ
fields word [] = []
fields word (x ∷ xs) = field word x ++ fields word xs

-- the clauses, or the URL as it was written
abbrev pub target_fields : TargetParts → List ℕ
target_fields (bounds cs) = fields (codes "clause ") (map clause_text cs)
target_fields (direct u) = field (codes "url ") u.written

abbrev pub marker_fields : Option MarkerParts → List ℕ
marker_fields None = []
marker_fields (Some m) = field (codes "marker ") (marker_text m)

-- the name, the extras, the target and the marker
abbrev pub requirement_fields : RequirementParts → List ℕ
requirement_fields r = field (codes "name ") r.name ++ fields (codes "extra ") r.extras
    ++ target_fields r.target ++ marker_fields r.marker

-- the lines are those of the requirement that the bytes are
pub record AreFieldsOf (bytes lines : List ℕ) : Type 0 where
  pub requirement : RequirementParts
  pub reads : Reads bytes requirement
  pub are_fields : lines ≡ requirement_fields requirement
