-- What a refusal says of the inputs: which of them is at fault, which line of it, and why. Nothing
-- else is answered.
use Rattle.std.specs.Prelude.{◌≡◌, ◌≢◌, ℕ, ◌<◌, ◌≤◌, ◌⊎◌, false, List, length, IsUtf8, Option}
use Rattle.pep_marker.specs.Environment.{EnvironmentParts, extra_in}
use Rattle.pep_require.specs.LineParts.{RefusesLine}
use Rattle.pep_require.specs.Reads.{Reads}
use Rattle.texts.specs.Limits.{line_limit}
use Rattle.pep_require.specs.Requirement.{HasUndefinedMarker, RequirementParts}
use Rattle.pep_require.specs.declared.fault.RequireFault.{RequireFault}
use Rattle.pep_require.specs.declared.fault.RequireFault.TheVariants as require
use Rattle.faults.specs.declared.fault.Cause.{Cause}
use Rattle.faults.specs.declared.fault.Cause.TheVariants as cause
use Rattle.faults.specs.declared.fault.Fault.{Fault}
use Rattle.faults.specs.declared.fault.LineFault.{LineFault}
use Rattle.faults.specs.declared.fault.LineFault.TheVariants as line_fault
use Rattle.faults.specs.declared.fault.Place.TheVariants as place
pub use Rattle.faults.specs.NoMemory.{no_memory}
use Rattle.documents.specs.ProjectRequirements.{IsProjectOf}
use Rattle.documents.specs.RefusedProject.{IsNumbered, IsOverflow, IsRefusedProject}
use Rattle.inputs.specs.declared.input.Input.{Input}
use Rattle.inputs.specs.declared.input.Kind.{Kind}
use Rattle.inputs.specs.declared.input.Kind.TheVariants as kind
use Rattle.inputs.specs.Gathered.{IsAccepted}
use Rattle.inputs.specs.Lists.{content, is_skipped, lines_of}
use Rattle.texts.specs.Limits.{input_limit}
use Rattle.inputs.specs.TableFiles.{IsRefusedTable}

-- ---- bytes that are no list of requirements

-- Why bytes are no line that a list may have: they are more than a line may have; or else they aren't
-- UTF-8.
pub data IsNoLine (line : List ℕ) (fault : LineFault) : Type 0 where
  by_length : line_limit < length line → fault ≡ line_fault.Requirement require.LineTooLong →
      IsNoLine line fault
  by_encoding : length line ≤ line_limit → ¬ IsUtf8 line → fault ≡ line_fault.NotUtf8 →
      IsNoLine line fault

-- Why a line is refused: it is none that a list may have; or else it isn't skipped, and its content is
-- refused as a requirement.
pub data IsRefusedLine (line : List ℕ) (fault : LineFault) : Type 0 where
  no_line : IsNoLine line fault → IsRefusedLine line fault
  by_content : (f : RequireFault) → length line ≤ line_limit → IsUtf8 line →
      is_skipped (content line) ≡ false
      → f ≢ require.NoMemory → RefusesLine (content line) f → fault ≡ line_fault.Requirement f →
      IsRefusedLine line fault

-- Why bytes are refused as a list: they are more than a list may have, or the line with this number
-- is refused.
pub data IsRefusedList (bytes : List ℕ) (c : Cause) : Type 0 where
  by_size : input_limit < length bytes → c ≡ cause.TooLarge → IsRefusedList bytes c
  by_line : (number : ℕ) (line : List ℕ) (fault : LineFault) →
      IsNumbered (lines_of bytes) number line
      → IsRefusedLine line fault → c ≡ cause.Line number fault →
      IsRefusedList bytes c

-- ---- requirements that are undefined in an environment

-- the line is one that a list may have, and its requirement has a marker that is undefined there
pub record HasUndefinedLine (e : EnvironmentParts) (line : List ℕ) : Type 0 where
  pub short : length line ≤ line_limit
  pub text : IsUtf8 line
  pub kept : is_skipped (content line) ≡ false
  pub requirement : RequirementParts
  pub reads : Reads (content line) requirement
  pub undefined : HasUndefinedMarker e requirement

-- the cause names such a line
pub record IsUndefinedList (e : EnvironmentParts) (bytes : List ℕ) (c : Cause) : Type 0 where
  pub number : ℕ
  pub line : List ℕ
  pub numbered : IsNumbered (lines_of bytes) number line
  pub undefined : HasUndefinedLine e line
  pub is : c ≡ cause.Line number line_fault.Undefined

-- ---- project files

-- the cause names a requirement whose marker is undefined there, by its number
pub record IsUndefinedAt (e : EnvironmentParts) (rs : List RequirementParts) (c : Cause) : Type 0
  where
    pub number : ℕ
    pub requirement : RequirementParts
    pub numbered : IsNumbered rs number requirement
    pub undefined : HasUndefinedMarker e requirement
    pub is : c ≡ cause.Line number line_fault.Undefined

-- .. of a project file, all of whose texts are requirements
abbrev pub IsUndefinedProject : EnvironmentParts → Option (List ℕ) → List ℕ → Cause → Type 0
IsUndefinedProject e group bytes c =
    (rs : List RequirementParts) × IsProjectOf (extra_in e) group bytes rs × IsUndefinedAt e rs c

-- ---- inputs

-- Why bytes are refused as an input of this kind: they are no list of requirements, or no project
-- file, or one of the requirements has a marker that is undefined there; or they are read as no
-- table there.
abbrev pub IsRefused : EnvironmentParts → Kind → Option (List ℕ) → List ℕ → Cause → Type 0
IsRefused e kind.List group bytes c = IsRefusedList bytes c ⊎ IsUndefinedList e bytes c
IsRefused e kind.Project group bytes c =
    IsRefusedProject (extra_in e) group bytes c ⊎ IsUndefinedProject e group bytes c
IsRefused e kind.Table group bytes c = IsRefusedTable e bytes c

-- The fault names an input, says why it is refused, and unless the reader of URLs answered its own
-- overflow, that input isn't accepted.
pub record BlamesInput (e : EnvironmentParts) (inputs : List Input) (fault : Fault) : Type 0 where
  pub number : ℕ
  pub input : Input
  pub numbered : IsNumbered inputs number input
  pub lies : fault.place ≡ place.Input number
  pub refused : IsRefused e input.kind input.group input.bytes.items fault.cause
  pub not_accepted : ¬ IsOverflow fault.cause → ¬ IsAccepted e input

-- Why inputs are refused with this fault: one of them is at fault, or memory ran out, of which
-- nothing is said.
abbrev pub RefusesInputs : EnvironmentParts → List Input → Fault → Type 0
RefusesInputs e inputs fault = (fault ≡ no_memory) ⊎ BlamesInput e inputs fault
