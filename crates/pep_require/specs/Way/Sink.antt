-- What a sink is told of a line, part by part, and what a walk of the whole line says.
use Rattle.std.specs.Prelude.{◌≡◌, ℕ, List, [], ◌∷◌, ◌++◌, Contains, ◌↔◌, None}
use Rattle.specifiers.specs.Clause.{Clause}
use Rattle.pep_require.specs.LineParts.{ExtrasFrom}
use Rattle.pep_require.specs.Reads.{Reads}
use Rattle.pep_require.specs.Requirement.{IsAscending, RequirementParts, TargetParts}
use Rattle.pep_require.specs.Requirement.{bounds, direct}

-- ---- parts so far: those of a requirement, its extras in the order of the line

abbrev pub with_name : List ℕ → RequirementParts
with_name name = record { name = name; extras = []; target = bounds []; marker = None }

abbrev pub with_extras : List (List ℕ) → RequirementParts → RequirementParts
with_extras names p =
    record { name = p.name; extras = names; target = p.target; marker = p.marker }

-- with one extra more
abbrev pub with_extra : List ℕ → RequirementParts → RequirementParts
with_extra n p = with_extras (p.extras ++ n ∷ []) p

-- .. with several
abbrev pub with_named : List (List ℕ) → RequirementParts → RequirementParts
with_named ns p = with_extras (p.extras ++ ns) p

abbrev pub with_target : TargetParts → RequirementParts → RequirementParts
with_target t p = record { name = p.name; extras = p.extras; target = t; marker = p.marker }

abbrev pub more_clauses : List Clause → TargetParts → TargetParts
more_clauses cs (bounds ds) = bounds (ds ++ cs)
more_clauses cs (direct u) = direct u

-- with clauses more
abbrev pub with_clauses : List Clause → RequirementParts → RequirementParts
with_clauses cs p = with_target (more_clauses cs p.target) p

-- with the target behind the name, where it has none yet
abbrev pub targeted : TargetParts → RequirementParts → RequirementParts
targeted (bounds cs) p = with_clauses cs p
targeted (direct u) p = with_target (direct u) p

-- what held of the parts before holds of those with these clauses more, where they have no URL
abbrev pub AddsClauses : (RequirementParts → Type 0) → (RequirementParts → Type 0) → List Clause → Type 0
AddsClauses old new cs = (p : RequirementParts) (ds : List Clause) → p.target ≡ bounds ds → old p →
    new (with_clauses cs p)

-- .. of those with the target, where they have none yet
abbrev pub AddsTarget : (RequirementParts → Type 0) → (RequirementParts → Type 0) → TargetParts → Type 0
AddsTarget old new t = (p : RequirementParts) → p.target ≡ bounds [] → old p → new (targeted t p)

-- .. and of those with other parts more
abbrev pub Adds : (RequirementParts → Type 0) → (RequirementParts → Type 0) →
    (RequirementParts → RequirementParts) → Type 0
Adds old new more = (p : RequirementParts) → old p → new (more p)

-- ---- the line

-- each ascending list of texts that has these members is one for which this is so
abbrev pub InOrder : List (List ℕ) → (List (List ℕ) → Type 0) → Type 0
InOrder named says =
    (extras : List (List ℕ)) → IsAscending extras →
    ((n : List ℕ) → Contains extras n ↔ Contains named n) → says extras

-- the text begins with extras in brackets that have these names, in this order, or with none
abbrev pub ExtrasNamed : List ℕ → List (List ℕ) → List ℕ → Type 0
ExtrasNamed x named rest = InOrder named (λ extras. ExtrasFrom x extras rest)

-- the line is read as a requirement of these parts, with its extras in order and each once
abbrev pub IsReadAs : List ℕ → RequirementParts → Type 0
IsReadAs line p = InOrder p.extras (λ extras. Reads line (with_extras extras p))

-- the line is read as parts that have this name, and of which this holds
pub record IsWalked (line name : List ℕ) (holds : RequirementParts → Type 0) : Type 0 where
  pub parts : RequirementParts
  pub named : parts.name ≡ name
  pub read : IsReadAs line parts
  pub held : holds parts
