-- Inputs that stand one behind the other in one buffer.
use Rattle.std.specs.Prelude.{◌≡◌, ◌≢◌, ℕ, ◌+◌, ◌==◌, ◌<◌, ◌⊎◌, List, [], ◌∷◌, ◌++◌, length}
use Rattle.std.specs.Prelude.{Option, Some, None, if◌then◌else◌, Any}
use Rattle.pep_marker.specs.Name.{name_of}
use Rattle.faults.specs.NoMemory.{no_memory}
use Rattle.faults.specs.declared.fault.Fault.{Fault}
use Rattle.inputs.specs.declared.input.Input.{Input}
use Rattle.inputs.specs.declared.input.Kind.{Kind}
use Rattle.inputs.specs.declared.input.Kind.TheVariants as kind
use Rattle.pep_c.specs.Names.{IsNoName}
use Rattle.pep_c.specs.declared.parts.CutFault.{CutFault}
use Rattle.pep_c.specs.declared.parts.CutFault.TheVariants.{Miscut, Refused}
use Rattle.pep_c.specs.declared.parts.Part.{Part}

-- ---- inputs

-- the kinds by their numbers
abbrev pub kind_numbered : ℕ → Option Kind
kind_numbered n = if n == 0 then Some kind.List
    else if n == 1 then Some kind.Project
    else if n == 2 then Some kind.Table else None

-- no text asks for no dependency group; a name asks for the group of this name of a project file (PyPA
-- "Dependency Groups")
pub data AsksGroup : Kind → List ℕ → Option (List ℕ) → Type 0 where
  no_group : {k : Kind} → AsksGroup k [] None
  a_group : {text n : List ℕ} → text ≢ [] → name_of text ≡ Some n → AsksGroup kind.Project text (Some n)

-- the bytes are this part: the text of the group that the input asks for, and the input's own, each as
-- many as the part says, and the input is of the kind with its number
pub record IsPart (p : Part) (bytes : List ℕ) (i : Input) : Type 0 where
  pub group : List ℕ
  pub whole : bytes ≡ group ++ i.bytes.items
  pub group_size : length group ≡ p.group_size
  pub size : length i.bytes.items ≡ p.size
  pub has_kind : kind_numbered p.kind ≡ Some i.kind
  pub asked : AsksGroup i.kind group i.group

-- the bytes are those of the parts, one behind the other, which are these inputs
abbrev pub HoldsInputs : List Part → List ℕ → List Input → Type 0
HoldsInputs [] bytes [] = bytes ≡ []
HoldsInputs [] bytes (i ∷ inputs) = ⊥
HoldsInputs (p ∷ parts) bytes [] = ⊥
HoldsInputs (p ∷ parts) bytes (i ∷ inputs) =
    (front behind : List ℕ) × (bytes ≡ front ++ behind) × IsPart p front i × HoldsInputs parts behind inputs

-- ---- what is refused

-- the number is no kind's, or a group is asked for of an input that is no project file
abbrev pub IsNoPart : Part → Type 0
IsNoPart p = (kind_numbered p.kind ≡ None)
    ⊎ ((kind_numbered p.kind ≢ Some kind.Project) × (p.group_size ≢ 0))

-- how many bytes the parts have together
abbrev pub sizes : List Part → ℕ
sizes [] = 0
sizes (p ∷ parts) = p.group_size + p.size + sizes parts

-- one of the parts can't be one, or together they have more bytes than there are, or fewer
abbrev pub IsMiscut : List Part → List ℕ → Type 0
IsMiscut parts bytes = Any IsNoPart parts ⊎ (sizes parts ≢ length bytes)

-- a group is asked for of one of the project files, whose text is no name; what stands before it are inputs
pub record RefusesGroup (parts : List Part) (bytes : List ℕ) (fault : Fault) : Type 0 where
  pub before : List Part
  pub part : Part
  pub behind : List Part
  pub are_parts : parts ≡ before ++ part ∷ behind
  pub is_project : kind_numbered part.kind ≡ Some kind.Project
  pub front : List ℕ
  pub inputs : List Input
  pub held : HoldsInputs before front inputs
  pub group : List ℕ
  pub left : List ℕ
  pub are_bytes : bytes ≡ front ++ group ++ left
  pub group_size : length group ≡ part.group_size
  pub asked : group ≢ []
  pub refused : IsNoName group fault

-- why bytes aren't cut into inputs
abbrev pub RefusesParts : List Part → List ℕ → CutFault → Type 0
RefusesParts parts bytes Miscut = IsMiscut parts bytes
RefusesParts parts bytes (Refused fault) = (fault ≡ no_memory) ⊎ RefusesGroup parts bytes fault

-- .. a text isn't that of a group that an input of this kind may ask for
abbrev pub RefusesAskedGroup : Kind → List ℕ → CutFault → Type 0
RefusesAskedGroup k text Miscut = (k ≢ kind.Project) × (text ≢ [])
RefusesAskedGroup k text (Refused fault) =
    (fault ≡ no_memory) ⊎ ((k ≡ kind.Project) × (text ≢ []) × IsNoName text fault)

-- .. the bytes in front aren't those of a part
abbrev pub RefusesPart : Part → List ℕ → CutFault → Type 0
RefusesPart p left Miscut = IsNoPart p ⊎ (length left < p.group_size + p.size)
RefusesPart p left (Refused fault) = (fault ≡ no_memory)
    ⊎ ((group behind : List ℕ) × (left ≡ group ++ behind) × (length group ≡ p.group_size)
    × (kind_numbered p.kind ≡ Some kind.Project) × (group ≢ []) × IsNoName group fault)
