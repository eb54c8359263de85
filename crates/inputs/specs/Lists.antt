-- The requirements of an input: a list, with a requirement on each line, or a project file.
use Rattle.std.specs.Prelude.{◌≡◌, ℕ, ◌≤◌, Bool, true, false, not, ◌||◌, ◌==◌, List, length, map, filter}
use Rattle.std.specs.Prelude.{All, Contains, IsUtf8, None, Ok, Option, Some}
use Rattle.std.specs.List.{AllZip, slice_split}
use Rattle.std.specs.Str.Lines.{strip_carriage_return}
use Rattle.texts.specs.Runs.{begins, without_outer_blanks}
use Rattle.pep_require.specs.Reads.{Reads}
use Rattle.texts.specs.Limits.{line_limit}
use Rattle.pep_marker.specs.Environment.{EnvironmentParts}
use Rattle.pep_require.specs.Requirement.{RequirementParts}
use Rattle.documents.specs.ProjectRequirements.{IsProjectOf, ProjectTexts}
use Rattle.inputs.specs.declared.input.Kind.{Kind}
use Rattle.inputs.specs.declared.input.Kind.TheVariants as kind
pub use Rattle.texts.specs.Limits.{input_limit}
use Rattle.demands.specs.Table.{TableParts}
use Rattle.inputs.specs.TableFiles.{IsTableFile}

-- ---- lists

-- the bytes between line feeds
abbrev pub lines_of : List ℕ → List (List ℕ)
lines_of bytes = slice_split (λ b. b == 10) bytes

-- a line without a carriage return at its end, and then without white space at both ends
abbrev pub content : List ℕ → List ℕ
content line = without_outer_blanks (strip_carriage_return line)

-- empty lines and comments are skipped
abbrev pub is_skipped : List ℕ → Bool
is_skipped x = length x == 0 || begins (λ b. b == 35) x

-- the text of the requirement on a line, and none where the line is skipped
abbrev pub IsTextOn : List ℕ → Option (List ℕ) → Type 0
IsTextOn line None = is_skipped (content line) ≡ true
IsTextOn line (Some text) = (is_skipped (content line) ≡ false) × (text ≡ content line)

-- the line is one that a list may have, but for its requirement, which has this text
pub record HasText (line : List ℕ) (found : Option (List ℕ)) : Type 0 where
  pub short : length line ≤ line_limit
  pub encoded : IsUtf8 line
  pub text : IsTextOn line found

-- the texts of the requirements on lines, of which some are skipped
abbrev pub requirements_among : List (List ℕ) → List (List ℕ)
requirements_among lines = filter (λ x. not (is_skipped x)) (map content lines)

-- the lines that are requirements
abbrev pub requirement_lines : List ℕ → List (List ℕ)
requirement_lines bytes = requirements_among (lines_of bytes)

-- the bytes are a list of these requirements, one a line, by what a line is read as
pub record IsListBy (reads : List ℕ → RequirementParts → Type 0) (bytes : List ℕ)
    (rs : List RequirementParts) : Type 0 where
  pub size : length bytes ≤ input_limit
  pub short : All (λ line. length line ≤ line_limit) (lines_of bytes)
  pub texts : All IsUtf8 (lines_of bytes)
  pub requirements : AllZip reads (requirement_lines bytes) rs

-- .. a requirement each (PEP 508, "Grammar")
abbrev pub IsRequirementList : List ℕ → List RequirementParts → Type 0
IsRequirementList bytes rs = IsListBy Reads bytes rs

-- ---- inputs

-- the requirements of an input of this kind, read for an extra, or for a dependency group of a
-- project file; a table file has none
abbrev pub Lists : List ℕ → Kind → Option (List ℕ) → List ℕ → List RequirementParts → Type 0
Lists extra kind.List group bytes rs = IsRequirementList bytes rs
Lists extra kind.Project group bytes rs = IsProjectOf extra group bytes rs
Lists extra kind.Table group bytes rs = ⊥

-- the table of an input of this kind, in the environment
abbrev pub HoldsTable : EnvironmentParts → Kind → List ℕ → TableParts → Type 0
HoldsTable e kind.Table bytes t = IsTableFile e bytes t
HoldsTable e _ bytes t = ⊥

-- the text is one of those of which an input has its requirements: of the lines of a list, and of
-- the texts of a project file that passes its checks
abbrev pub IsInputText : List ℕ → Kind → Option (List ℕ) → List ℕ → List ℕ → Type 0
IsInputText extra kind.List group bytes x = Contains (requirement_lines bytes) x
IsInputText extra kind.Project group bytes x =
    (texts : List (List ℕ)) × ProjectTexts extra group bytes (Ok texts) × Contains texts x
IsInputText extra kind.Table group bytes x = ⊥
