-- Questions on what inputs demand, each of which names a package and a version.
use Rattle.std.specs.Prelude.{◌≡◌, ℕ, ◌==◌, ◌⊎◌, Bool, true, false, List, All, Ok}
use Rattle.std.specs.List.{AllZip, after_first, before_first, slice_split}
use Rattle.pep_version.specs.Version.{IsVersion, Version, is_pre_release}
use Rattle.pep_marker.specs.Environment.{EnvironmentParts}
use Rattle.demands.specs.Answer.{IsAnswer}
use Rattle.demands.specs.Demand.{Demands}
use Rattle.demands.specs.declared.verdict.Answer.{Answer}
use Rattle.demands.specs.declared.verdict.Answer.TheVariants.{Conflict, No, Yes}
use Rattle.documents.specs.EnvironmentFile.{environment_file}
use Rattle.faults.specs.declared.fault.Fault.{Fault}
use Rattle.inputs.specs.declared.input.Input.{Input}
use Rattle.inputs.specs.Gathered.{Gathered, IsAccepted}
use Rattle.pep_c.specs.Inputs.{IsAsked}
use Rattle.pep_c.specs.Names.{IsNoName}
use Rattle.pep_c.specs.Parts.{HoldsInputs}
use Rattle.pep_c.specs.Versions.{RefusesVersion}
use Rattle.pep_c.specs.declared.parts.Part.{Part}

-- a question is a name, a space, and a version
abbrev pub asked_name : List ℕ → List ℕ
asked_name question = before_first (λ b. b == 32) question

abbrev pub asked_version : List ℕ → List ℕ
asked_version question = after_first (λ b. b == 32) question

-- by the answer where pre-releases are wanted, and whether the version is a pre-release
abbrev pub question_byte : Answer → Bool → ℕ
question_byte No is_pre = 0
question_byte Yes false = 1
question_byte Yes true = 3
question_byte Conflict is_pre = 4

-- the question asks for a version of a package, of which the demands give this answer
pub record IsAnswered (Q : Demands) (question : List ℕ) (n : ℕ) : Type 0 where
  pub name : List ℕ
  pub version : Version
  pub asked : IsAsked (asked_name question) (asked_version question) name version
  pub is_version : IsVersion version
  pub answer : Answer
  pub is_answer : IsAnswer (Q name) version true answer
  pub is : n ≡ question_byte answer (is_pre_release version)

-- it asks for no version, or of no package
abbrev pub AsksNothing : List ℕ → Type 0
AsksNothing question =
    (fault : Fault) × (RefusesVersion (asked_version question) fault ⊎ IsNoName (asked_name question) fault)

-- 0 if a demand isn't met, 1 if all are, or 3 if the version is a pre-release too, 4 if two URLs are demanded; and 2 if
-- it asks nothing
abbrev pub AnswersQuestion : Demands → List ℕ → ℕ → Type 0
AnswersQuestion Q question n = IsAnswered Q question n ⊎ ((n ≡ 2) × AsksNothing question)

-- such an answer for each question between zero bytes
abbrev pub AnswersQuestions : Demands → List ℕ → List ℕ → Type 0
AnswersQuestions Q questions answers =
    AllZip (AnswersQuestion Q) (slice_split (λ b. b == 0) questions) answers

-- all inputs are accepted in the environment, and their demands give the answers
pub record AnswersInputs (environment : List ℕ) (inputs : List Input) (questions answers : List ℕ) : Type 0
  where
    pub parts : EnvironmentParts
    pub has_environment : environment_file environment ≡ Ok parts
    pub accepted : All (IsAccepted parts) inputs
    pub each : AnswersQuestions (Gathered parts inputs) questions answers

-- .. of inputs that stand in one buffer
abbrev pub AnswersParts : List ℕ → List Part → List ℕ → List ℕ → List ℕ → Type 0
AnswersParts environment parts bytes questions answers =
    (inputs : List Input) × HoldsInputs parts bytes inputs
    × AnswersInputs environment inputs questions answers
