-- What the texts of lines are taken for: the requirements that they are.
use Rattle.std.specs.Prelude.{◌≡◌, ℕ, ◌⊎◌, List, [], ◌∷◌, ◌++◌, Option}
use Rattle.pep_marker.specs.Environment.{EnvironmentParts}
use Rattle.pep_require.specs.LineParts as requirement
use Rattle.pep_require.specs.Reads.{Reads}
use Rattle.pep_require.specs.Requirement.{HasUndefinedMarker, RequirementParts}
use Rattle.pep_require.specs.declared.fault.RequireFault.{RequireFault}
use Rattle.pep_require.specs.declared.fault.RequireFault.TheVariants as require
use Rattle.demands.specs.Table.{TableParts}
use Rattle.faults.specs.declared.fault.LineFault.{LineFault}
use Rattle.faults.specs.declared.fault.LineFault.TheVariants as line_fault
use Rattle.inputs.specs.Way.Wanted.{TakesWanted}

-- the text's requirement stands behind the others
abbrev pub AddsText : List ℕ → List RequirementParts → List RequirementParts → Type 0
AddsText text old new = (r : RequirementParts) × Reads text r × (new ≡ old ++ r ∷ [])

-- the table with what the text's requirement demands, if it applies and its name counts
abbrev pub GathersText : EnvironmentParts → Option (List ℕ) → List ℕ → TableParts → TableParts →
    Type 0
GathersText e w text old new =
    (r : RequirementParts) × Reads text r × TakesWanted e w old (r ∷ []) new

-- why a text is refused as a requirement: lack of memory, or a fault of its own
abbrev pub RefusesText : List ℕ → LineFault → Type 0
RefusesText text f =
    (f ≡ line_fault.Requirement require.NoMemory)
    ⊎ ((g : RequireFault) × (f ≡ line_fault.Requirement g) × requirement.RefusesLine text g)

-- .. or its requirement has a marker that is undefined in the environment
abbrev pub RefusesTextIn : EnvironmentParts → List ℕ → LineFault → Type 0
RefusesTextIn e text f =
    RefusesText text f
    ⊎ ((f ≡ line_fault.Undefined)
    × ((r : RequirementParts) × Reads text r × HasUndefinedMarker e r))
