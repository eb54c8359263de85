-- Which inputs are accepted in an environment, and what all of them demand there.
use Rattle.std.specs.Prelude.{ℕ, ◌⊎◌, ◌↔◌, List, [], ◌∷◌, Option, All, Contains}
use Rattle.pep_marker.specs.Environment.{EnvironmentParts, extra_in}
use Rattle.pep_require.specs.Requirement.{HasDefinedMarker, RequirementParts}
use Rattle.demands.specs.Demand.{ApplyingDemands, Demands}
use Rattle.demands.specs.Table.{TableDemands, TableParts}
use Rattle.inputs.specs.declared.input.Input.{Input}
use Rattle.inputs.specs.declared.input.Kind.{Kind}
use Rattle.inputs.specs.Lists.{HoldsTable, IsInputText, Lists}

-- the bytes are requirements, and each of them has a marker that is true or false there; or they
-- are the text of a table there, or the lines of one
abbrev pub AcceptsBytes : EnvironmentParts → Kind → Option (List ℕ) → List ℕ → Type 0
AcceptsBytes e k group bytes =
    ((rs : List RequirementParts) × Lists (extra_in e) k group bytes rs
    × All (HasDefinedMarker e) rs)
    ⊎ ((t : TableParts) × HoldsTable e k bytes t)

abbrev pub IsAccepted : EnvironmentParts → Input → Type 0
IsAccepted e i = AcceptsBytes e i.kind i.group i.bytes.items

-- what the bytes demand: what those of their requirements demand that apply there, or what their
-- table gives
abbrev pub BytesDemand : EnvironmentParts → Kind → Option (List ℕ) → List ℕ → Demands
BytesDemand e k group bytes name d =
    ((rs : List RequirementParts) × Lists (extra_in e) k group bytes rs
    × ApplyingDemands e rs name d)
    ⊎ ((t : TableParts) × HoldsTable e k bytes t × TableDemands t name d)

-- the set of the demands of all inputs
abbrev pub Gathered : EnvironmentParts → List Input → Demands
Gathered e [] name d = ⊥
Gathered e (i ∷ inputs) name d =
    BytesDemand e i.kind i.group i.bytes.items name d ⊎ Gathered e inputs name d

-- ---- inputs that demand the same

-- one of the inputs has the requirement
abbrev pub HasRequirement : EnvironmentParts → List Input → RequirementParts → Type 0
HasRequirement e inputs r = (i : Input) × Contains inputs i
    × ((rs : List RequirementParts) × Lists (extra_in e) i.kind i.group i.bytes.items rs
    × Contains rs r)

-- one of the inputs is read as the table
abbrev pub HasTable : EnvironmentParts → List Input → TableParts → Type 0
HasTable e inputs t = (i : Input) × Contains inputs i × HoldsTable e i.kind i.bytes.items t

-- the inputs have the same requirements and the same tables, in whatever order and grouping, and
-- however often
abbrev pub HaveSameRequirements : EnvironmentParts → List Input → List Input → Type 0
HaveSameRequirements e a b =
    ((r : RequirementParts) → HasRequirement e a r ↔ HasRequirement e b r)
    × ((t : TableParts) → HasTable e a t ↔ HasTable e b t)

-- one of the inputs has the text: a list as a line, without what is dropped at its ends, a project
-- file among the texts that are asked for
abbrev pub HasLine : EnvironmentParts → List Input → List ℕ → Type 0
HasLine e inputs line = (i : Input) × Contains inputs i
    × IsInputText (extra_in e) i.kind i.group i.bytes.items line

-- the inputs have the same lines and the same tables, in whatever order and grouping, and however
-- often; empty lines and comments apart
abbrev pub HaveSameLines : EnvironmentParts → List Input → List Input → Type 0
HaveSameLines e a b = ((line : List ℕ) → HasLine e a line ↔ HasLine e b line)
    × ((t : TableParts) → HasTable e a t ↔ HasTable e b t)
