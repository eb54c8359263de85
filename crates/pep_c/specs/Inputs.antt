-- What is said of inputs that come in as bytes, in the environment of a file's bytes.
use Rattle.std.specs.Prelude.{◌≡◌, ℕ, ◌⊎◌, List, All, Some, Ok, Err, Bool}
use Rattle.std.specs.Prelude.{ℤ, pos, negsuc}
use Rattle.pep_version.specs.Spelling.{Reads}
use Rattle.pep_version.specs.Version.{Version}
use Rattle.pep_marker.specs.Environment.{EnvironmentParts}
use Rattle.pep_marker.specs.Name.{name_of}
use Rattle.demands.specs.Answer.{IsAnswer}
use Rattle.demands.specs.declared.verdict.Answer.{Answer}
use Rattle.demands.specs.declared.verdict.Answer.TheVariants.{Conflict, No, Yes}
use Rattle.faults.specs.declared.fault.Fault.{Fault}
use Rattle.faults.specs.declared.fault.Place.TheVariants as place
use Rattle.documents.specs.EnvironmentFile.{environment_file}
use Rattle.inputs.specs.declared.input.Input.{Input}
use Rattle.inputs.specs.Gathered.{Gathered, IsAccepted}
use Rattle.inputs.specs.Merge.{IsMerge}
use Rattle.inputs.specs.Refusal.{BlamesInput}
use Rattle.pep_c.specs.Names.{IsNoName}
use Rattle.pep_c.specs.Parts.{HoldsInputs, RefusesGroup}
use Rattle.pep_c.specs.Versions.{RefusesVersion}
use Rattle.pep_c.specs.declared.parts.Part.{Part}
pub use Rattle.pep_c.specs.Parts.{IsMiscut}

-- the text is that of the table of the inputs, in the environment of the file with these bytes
pub record Merges (environment : List ℕ) (inputs : List Input) (text : List ℕ) : Type 0 where
  pub parts : EnvironmentParts
  pub has_environment : environment_file environment ≡ Ok parts
  pub is_merge : IsMerge parts inputs text

-- .. of the inputs that stand in one buffer
abbrev pub MergesParts : List ℕ → List Part → List ℕ → List ℕ → Type 0
MergesParts environment parts bytes text =
    (inputs : List Input) × HoldsInputs parts bytes inputs × Merges environment inputs text

-- why inputs are refused: the environment is, or else one of them isn't accepted there
pub data RefusesInputs (environment : List ℕ) (inputs : List Input) (fault : Fault) : Type 0 where
  by_environment : fault.place ≡ place.Environment → environment_file environment ≡ Err fault.cause →
      RefusesInputs environment inputs fault
  by_input : (e : EnvironmentParts) → environment_file environment ≡ Ok e →
      BlamesInput e inputs fault → RefusesInputs environment inputs fault

-- .. inputs that stand in one buffer: the text of a group is no name, or they are refused
abbrev pub RefusesMerge : List ℕ → List Part → List ℕ → Fault → Type 0
RefusesMerge environment parts bytes fault = RefusesGroup parts bytes fault
    ⊎ ((inputs : List Input) × HoldsInputs parts bytes inputs × RefusesInputs environment inputs fault)

-- ---- the check of a version

-- an answer as a number
abbrev pub answer_number : Answer → ℤ
answer_number Yes = pos 1
answer_number No = pos 0
answer_number Conflict = negsuc 0

-- the version and the name that are asked for
pub record IsAsked (name version : List ℕ) (n : List ℕ) (v : Version) : Type 0 where
  pub reads : Reads version (Ok v)
  pub is_name : name_of name ≡ Some n

-- all inputs are accepted in the environment, and the number is that of the answer which their
-- demands on the name give of the version
pub record Checks (environment : List ℕ) (inputs : List Input) (name version : List ℕ)
    (want_pre : Bool) (number : ℤ) : Type 0 where
  pub asked_name : List ℕ
  pub asked_version : Version
  pub asked : IsAsked name version asked_name asked_version
  pub parts : EnvironmentParts
  pub has_environment : environment_file environment ≡ Ok parts
  pub accepted : All (IsAccepted parts) inputs
  pub answer : Answer
  pub is_answer : IsAnswer (Gathered parts inputs asked_name) asked_version want_pre answer
  pub is_number : number ≡ answer_number answer

-- .. of inputs that stand in one buffer
abbrev pub ChecksParts : List ℕ → List Part → List ℕ → List ℕ → List ℕ → Bool → ℤ → Type 0
ChecksParts environment parts bytes name version want_pre number =
    (inputs : List Input) × HoldsInputs parts bytes inputs
    × Checks environment inputs name version want_pre number

-- why a check is refused: the version is, or else the name, or else the environment or an input
pub data RefusesAsked (environment : List ℕ) (inputs : List Input) (name version : List ℕ)
    (fault : Fault) : Type 0 where
  by_version : RefusesVersion version fault → RefusesAsked environment inputs name version fault
  by_name : (v : Version) → Reads version (Ok v) → IsNoName name fault →
      RefusesAsked environment inputs name version fault
  by_inputs : (n : List ℕ) (v : Version) → IsAsked name version n v →
      RefusesInputs environment inputs fault
      → RefusesAsked environment inputs name version fault

-- .. of inputs that stand in one buffer
abbrev pub RefusesCheck : List ℕ → List Part → List ℕ → List ℕ → List ℕ → Fault → Type 0
RefusesCheck environment parts bytes name version fault = RefusesGroup parts bytes fault
    ⊎ ((inputs : List Input) × HoldsInputs parts bytes inputs
    × RefusesAsked environment inputs name version fault)
