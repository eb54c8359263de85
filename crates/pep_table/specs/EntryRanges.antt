-- How many ranges an entry has.
use Rattle.std.specs.Prelude.{◌≡◌, ℕ, ◌+◌, ◌≤◌, ◌⊎◌, List, [], ◌∷◌, length, IfSome}
use Rattle.specifiers.specs.Clause.{Clause, excluding, excluding_prefix}
use Rattle.pep_marker.specs.Environment.{EnvironmentParts}
use Rattle.pep_require.specs.Requirement.{Applies, RequirementParts}
use Rattle.demands.specs.Gathering.{target_clauses}
use Rattle.demands.specs.Table.{TableParts, entry_at}

-- how many of the clauses leave something out: `!=` with a version or a prefix (PEP 440, "Version
-- exclusion")
abbrev pub exclusions : List Clause → ℕ
exclusions [] = 0
exclusions (excluding v ∷ cs) = exclusions cs + 1
exclusions (excluding_prefix p ∷ cs) = exclusions cs + 1
exclusions (c ∷ cs) = exclusions cs

-- the requirement applies in the environment, and is one on this name
abbrev pub AppliesTo : EnvironmentParts → List ℕ → RequirementParts → Type 0
AppliesTo e name r = Applies e r × (name ≡ r.name)

-- so many `!=` clauses do those requirements have together that apply, and are on this name
abbrev pub CountsExclusions : EnvironmentParts → List ℕ → List RequirementParts → ℕ → Type 0
CountsExclusions e name [] n = n ≡ 0
CountsExclusions e name (r ∷ rs) n = (m : ℕ) × CountsExclusions e name rs m
    × ((AppliesTo e name r × (n ≡ m + exclusions (target_clauses r.target)))
    ⊎ (¬ AppliesTo e name r × (n ≡ m)))

-- each entry has at most one range more than the `!=` clauses that are gathered of its name
abbrev pub HasFewEntryRanges : EnvironmentParts → List RequirementParts → TableParts → Type 0
HasFewEntryRanges e rs t =
    (name : List ℕ) → IfSome (entry_at t name) (λ entry. (n : ℕ) × CountsExclusions e name rs n
    × (length entry.versions ≤ n + 1))
