-- What inputs add to a table: the code's way.
use Rattle.std.specs.Prelude.{◌≡◌, ℕ, ◌⊎◌, List, [], ◌∷◌, Option}
use Rattle.std.specs.List.{AllZip}
use Rattle.pep_marker.specs.Environment.{EnvironmentParts, extra_in}
use Rattle.pep_require.specs.Reads.{Reads}
use Rattle.pep_require.specs.Requirement.{RequirementParts}
use Rattle.demands.specs.Join.{JoinsTables}
use Rattle.demands.specs.Table.{TableParts}
use Rattle.faults.specs.declared.fault.Cause.{Cause}
use Rattle.faults.specs.declared.fault.Cause.TheVariants.{NoMemory}
use Rattle.documents.specs.RefusedProject.{IsRefusedText}
use Rattle.inputs.specs.declared.input.Input.{Input}
use Rattle.inputs.specs.declared.input.Kind.{Kind}
use Rattle.inputs.specs.Lists.{HoldsTable, Lists}
use Rattle.inputs.specs.Refusal.{IsRefused, IsUndefinedAt}
use Rattle.pep_table.specs.NamedEntry.{wanted_part}
use Rattle.inputs.specs.Way.Wanted.{TakesWanted}

-- the table with what the requirements of an input demand, or joined with its table, as far as it
-- counts
abbrev pub GathersBytes : EnvironmentParts → Option (List ℕ) → Kind → Option (List ℕ) → List ℕ →
    TableParts → TableParts → Type 0
GathersBytes e w k group bytes old new =
    ((rs : List RequirementParts) × Lists (extra_in e) k group bytes rs
    × TakesWanted e w old rs new)
    ⊎ ((t : TableParts) × HoldsTable e k bytes t × JoinsTables old (wanted_part w t) new)

-- .. and of inputs in turn
abbrev pub GathersInputs : EnvironmentParts → Option (List ℕ) → List Input → TableParts →
    TableParts → Type 0
GathersInputs e w [] old new = old ≡ new
GathersInputs e w (i ∷ inputs) old new =
    (mid : TableParts) × GathersBytes e w i.kind i.group i.bytes.items old mid
    × GathersInputs e w inputs mid new

-- why the bytes of an input are refused: lack of memory, of which nothing is said, or a cause of
-- their own
abbrev pub RefusesAsInput : EnvironmentParts → Kind → Option (List ℕ) → List ℕ → Cause → Type 0
RefusesAsInput e k group bytes c = (c ≡ NoMemory) ⊎ IsRefused e k group bytes c

-- ---- the texts of a project file

-- why they are refused: lack of memory, of which nothing is said, or one that is no requirement; or all are
-- requirements, of which one has a marker that is undefined in the environment
abbrev pub RefusesTexts : EnvironmentParts → List (List ℕ) → Cause → Type 0
RefusesTexts e texts c =
    (c ≡ NoMemory)
    ⊎ (IsRefusedText texts c
    ⊎ ((rs : List RequirementParts) × AllZip Reads texts rs × IsUndefinedAt e rs c))
