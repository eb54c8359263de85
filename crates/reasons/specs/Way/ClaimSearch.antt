-- How the claims of one input are found: the code's way.
use Rattle.std.specs.Prelude.{◌≡◌, ℕ, ◌+◌, ◌≤◌, ◌↔◌, false, List, [], ◌∷◌, ◌++◌, length, Contains, Option}
use Rattle.std.specs.Prelude.{Some, None}
use Rattle.std.specs.List.{AllZip}
use Rattle.pep_marker.specs.Environment.{EnvironmentParts}
use Rattle.pep_require.proofs.Ascending.{IsIn}
use Rattle.demands.specs.Table.{EntryParts, TableParts, names}
use Rattle.pep_require.specs.Reads.{Reads}
use Rattle.pep_require.specs.Requirement.{Applies, RequirementParts}
use Rattle.inputs.specs.declared.input.Kind.TheVariants as kind
use Rattle.inputs.specs.Lists.{content, is_skipped, lines_of}
use Rattle.reasons.specs.Way.Asked.{AskedParts, Gains}
use Rattle.reasons.specs.Claims.{AreInOrder, ClaimParts, PlacedParts, entered, name_of, required}
use Rattle.reasons.specs.Places.{IsOnLine, StandsIn}

-- the claims on a name of the input with this number, by what stands at the numbers in it
pub record AreClaimsBy (Stands : ℕ → ClaimParts → Type 0) (input : ℕ) (name : List ℕ)
    (ps : List PlacedParts) : Type 0 where
  pub order : AreInOrder ps
  pub members : (p : PlacedParts) → Contains ps p
      ↔ ((p.input ≡ input) × Stands p.number p.claim × (name_of p.claim ≡ name))

-- ---- requirements

-- a requirement counts: it is on one of the names, and applies
abbrev pub Counts : EnvironmentParts → List (List ℕ) → RequirementParts → Type 0
Counts e names r = Contains names r.name × Applies e r

-- the requirement is handed on if it applies ..
abbrev pub FindsApplying : EnvironmentParts → RequirementParts → Option RequirementParts → Type 0
FindsApplying e r (Some q) = (r ≡ q) × Applies e r
FindsApplying e r None = ¬ Applies e r

-- .. or if it counts
abbrev pub FindsCounted : EnvironmentParts → List (List ℕ) → RequirementParts →
    Option RequirementParts → Type 0
FindsCounted e names r (Some q) = (r ≡ q) × Counts e names r
FindsCounted e names r None = ¬ Counts e names r

-- the line is a requirement that counts
pub record IsCountedLine (e : EnvironmentParts) (names : List (List ℕ)) (line : List ℕ)
    (r : RequirementParts) : Type 0 where
  pub kept : is_skipped (content line) ≡ false
  pub reads : Reads (content line) r
  pub counts : Counts e names r

-- .. which is found, or there is none
abbrev pub FindsOnLine : EnvironmentParts → List (List ℕ) → List ℕ → Option RequirementParts → Type 0
FindsOnLine e names line (Some r) = IsCountedLine e names line r
FindsOnLine e names line None = (r : RequirementParts) → ¬ IsCountedLine e names line r

-- Of the requirements that stand at the numbers in an input, those that apply, up to a number.
abbrev pub UpTo : EnvironmentParts → (ℕ → RequirementParts → Type 0) → ℕ → ℕ → ClaimParts → Type 0
UpTo e At end number (required r) = At number r × Applies e r × (number ≤ end)
UpTo e At end number (entered name entry) = ⊥

-- behind some lines of a list these are left, and the claims of those that are done were added
pub record ListedSoFar (e : EnvironmentParts) (bytes : List ℕ) (input number : ℕ)
    (left : List (List ℕ)) (olds news : List AskedParts) : Type 0 where
  pub done : List (List ℕ)
  pub split : lines_of bytes ≡ done ++ left
  pub counted : number ≡ length done
  pub claims : AllZip (Gains (AreClaimsBy (UpTo e (IsOnLine bytes) number) input)) olds news

-- ---- entries

-- how many lines an entry has in the text of a table, and how many all have
abbrev pub entry_lines : EntryParts → ℕ
entry_lines e = 1 + length e.extras + length e.urls + length e.texts + length e.versions

abbrev pub lines_in : TableParts → ℕ
lines_in [] = 0
lines_in (p ∷ t) = entry_lines p.1 + lines_in t

-- of the claims that stand in a table file, those of these entries
abbrev pub EntersAmong : EnvironmentParts → List ℕ → TableParts → ℕ → ClaimParts → Type 0
EntersAmong e bytes t number c = StandsIn e kind.Table None bytes number c × IsIn (names t) (name_of c)
