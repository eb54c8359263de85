-- What is said of why packages have their verdicts, of inputs that come in as bytes.
use Rattle.std.specs.Prelude.{◌≡◌, ℕ, ◌⊎◌, List, Some, Ok}
use Rattle.pep_marker.specs.Environment.{EnvironmentParts}
use Rattle.pep_marker.specs.Name.{name_of}
use Rattle.documents.specs.EnvironmentFile.{environment_file}
use Rattle.faults.specs.declared.fault.Fault.{Fault}
use Rattle.inputs.specs.declared.input.Input.{Input}
use Rattle.reasons.specs.Clash.{AreReasons, IsReasonOf, ReasonParts}
use Rattle.reasons.specs.ReasonText.{reason_text, reasons_text}
use Rattle.pep_c.specs.Inputs.{RefusesInputs}
use Rattle.pep_c.specs.Names.{IsNoName}
use Rattle.pep_c.specs.Parts.{HoldsInputs, RefusesGroup}
use Rattle.pep_c.specs.declared.parts.Part.{Part}

-- ---- one package

-- the text is that of the reason of the package with this name, in the environment of the file with
-- these bytes
pub record TellsWhy (environment : List ℕ) (inputs : List Input) (name text : List ℕ) : Type 0 where
  pub parts : EnvironmentParts
  pub has_environment : environment_file environment ≡ Ok parts
  pub reason : ReasonParts
  pub is_name : name_of name ≡ Some reason.name
  pub is_reason : IsReasonOf parts inputs reason
  pub is_text : text ≡ reason_text reason

-- .. of inputs that stand in one buffer
abbrev pub TellsWhyOfParts : List ℕ → List Part → List ℕ → List ℕ → List ℕ → Type 0
TellsWhyOfParts environment parts bytes name text =
    (inputs : List Input) × HoldsInputs parts bytes inputs × TellsWhy environment inputs name text

-- what is asked for is no name, or the environment or an input is refused
pub data RefusesReason (environment : List ℕ) (inputs : List Input) (name : List ℕ) (fault : Fault) :
    Type 0 where
  unnamed : IsNoName name fault → RefusesReason environment inputs name fault
  of_inputs : (n : List ℕ) → name_of name ≡ Some n → RefusesInputs environment inputs fault →
      RefusesReason environment inputs name fault

-- .. of inputs that stand in one buffer
abbrev pub RefusesWhy : List ℕ → List Part → List ℕ → List ℕ → Fault → Type 0
RefusesWhy environment parts bytes name fault = RefusesGroup parts bytes fault
    ⊎ ((inputs : List Input) × HoldsInputs parts bytes inputs × RefusesReason environment inputs name fault)

-- ---- all packages that aren't open

pub record TellsClashes (environment : List ℕ) (inputs : List Input) (text : List ℕ) : Type 0 where
  pub parts : EnvironmentParts
  pub has_environment : environment_file environment ≡ Ok parts
  pub reasons : List ReasonParts
  pub are_reasons : AreReasons parts inputs reasons
  pub is_text : text ≡ reasons_text reasons

-- .. of inputs that stand in one buffer
abbrev pub TellsClashesOfParts : List ℕ → List Part → List ℕ → List ℕ → Type 0
TellsClashesOfParts environment parts bytes text =
    (inputs : List Input) × HoldsInputs parts bytes inputs × TellsClashes environment inputs text
