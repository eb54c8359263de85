-- Where claims stand in inputs.
use Rattle.std.specs.Prelude.{◌≡◌, ℕ, ◌↔◌, false, List, ◌∷◌, ◌++◌, length, Contains, Ok, Option}
use Rattle.pep_marker.specs.Environment.{EnvironmentParts, extra_in}
use Rattle.pep_require.specs.Reads.{Reads}
use Rattle.pep_require.specs.Requirement.{Applies, RequirementParts}
use Rattle.demands.specs.Table.{EntryParts, TableParts}
use Rattle.pep_table.specs.TableText.{AreTableLines, IsReadAs}
use Rattle.documents.specs.ProjectRequirements.{ProjectTexts}
use Rattle.documents.specs.RefusedProject.{IsNumbered}
use Rattle.inputs.specs.declared.input.Input.{Input}
use Rattle.inputs.specs.declared.input.Kind.{Kind}
use Rattle.inputs.specs.declared.input.Kind.TheVariants as kind
use Rattle.inputs.specs.Lists.{content, is_skipped, lines_of}
use Rattle.inputs.specs.TableFiles.{IsTableFile}
use Rattle.reasons.specs.Claims.{AreInOrder, ClaimParts, PlacedParts, entered, name_of, required}

-- ---- in one input

-- the line of a list with this number is the requirement
pub record IsOnLine (bytes : List ℕ) (number : ℕ) (r : RequirementParts) : Type 0 where
  pub line : List ℕ
  pub numbered : IsNumbered (lines_of bytes) number line
  pub kept : is_skipped (content line) ≡ false
  pub reads : Reads (content line) r

-- of the texts that a project file is asked for, the one with this number is the requirement
pub record IsOfText (extra : List ℕ) (group : Option (List ℕ)) (bytes : List ℕ) (number : ℕ)
    (r : RequirementParts) : Type 0 where
  pub texts : List (List ℕ)
  pub asked : ProjectTexts extra group bytes (Ok texts)
  pub text : List ℕ
  pub numbered : IsNumbered texts number text
  pub reads : Reads text r

-- The lines of the entry begin with the line of a table file that has this number: in front of them
-- stands what is read as the entries before, with the header where there is one.
pub record BeginsOn (e : EnvironmentParts) (bytes : List ℕ) (number : ℕ) (name : List ℕ)
    (entry : EntryParts) : Type 0 where
  pub before : TableParts
  pub behind : TableParts
  pub table : IsTableFile e bytes (before ++ (name, entry) ∷ behind)
  pub front : List ℕ
  pub rest : List ℕ
  pub whole : bytes ≡ front ++ rest
  pub fore : IsReadAs e before front
  pub lines : AreTableLines ((name, entry) ∷ behind) rest
  pub counted : number ≡ length (lines_of front)

-- the requirement stands in an input of this kind, at the line or text with this number
abbrev pub RequiresAt : List ℕ → Kind → Option (List ℕ) → List ℕ → ℕ → RequirementParts → Type 0
RequiresAt extra kind.List group bytes number r = IsOnLine bytes number r
RequiresAt extra kind.Project group bytes number r = IsOfText extra group bytes number r
RequiresAt extra kind.Table group bytes number r = ⊥

-- .. and the entry of a name
abbrev pub EntersAt : EnvironmentParts → Kind → List ℕ → ℕ → List ℕ → EntryParts → Type 0
EntersAt e kind.Table bytes number name entry = BeginsOn e bytes number name entry
EntersAt e _ bytes number name entry = ⊥

-- the bytes of such an input have the claim there, and it counts in the environment: a requirement if
-- it applies
abbrev pub StandsIn : EnvironmentParts → Kind → Option (List ℕ) → List ℕ → ℕ → ClaimParts → Type 0
StandsIn e k group bytes number (required r) =
    RequiresAt (extra_in e) k group bytes number r × Applies e r
StandsIn e k group bytes number (entered name entry) = EntersAt e k bytes number name entry

abbrev pub ClaimsAt : EnvironmentParts → Input → ℕ → ClaimParts → Type 0
ClaimsAt e i number c = StandsIn e i.kind i.group i.bytes.items number c

-- ---- in all inputs

pub record StandsAmong (e : EnvironmentParts) (inputs : List Input) (p : PlacedParts) : Type 0 where
  pub input : Input
  pub numbered : IsNumbered inputs p.input input
  pub claims : ClaimsAt e input p.number p.claim

-- the claims of the inputs on a name: just those that stand there, in order, each once
pub record AreClaims (e : EnvironmentParts) (inputs : List Input) (name : List ℕ)
    (ps : List PlacedParts) : Type 0 where
  pub order : AreInOrder ps
  pub members : (p : PlacedParts) → Contains ps p ↔ (StandsAmong e inputs p × (name_of p.claim ≡ name))
