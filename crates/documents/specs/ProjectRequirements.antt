-- The requirements of a project file.
use Rattle.std.specs.Prelude.{◌≡◌, ℕ, List, Option, Some, None, Ok, Result}
use Rattle.std.specs.List.{AllZip}
use Rattle.pep_require.specs.Reads.{Reads}
use Rattle.pep_require.specs.Requirement.{RequirementParts}
use Rattle.faults.specs.declared.fault.Cause.{Cause}
use Rattle.toml.specs.Data.{Members}
use Rattle.documents.specs.GroupWalk.{ComesTo, group_file, group_step}
use Rattle.documents.specs.Groups.{groups_in}
use Rattle.documents.specs.Project.{project_file, project_texts}

-- the texts that a project file is asked for, or the first check that fails: those of a dependency
-- group, or where none is asked for, of its dependencies and of an extra
abbrev pub ProjectTexts : List ℕ → Option (List ℕ) → List ℕ → Result (List (List ℕ)) Cause → Type 0
ProjectTexts extra None bytes texts = project_file extra bytes ≡ texts
ProjectTexts extra (Some group) bytes texts = ComesTo (group_file group bytes) texts

-- the same of a document that is read
abbrev pub AskedTexts : List ℕ → Option (List ℕ) → Members → Result (List (List ℕ)) Cause → Type 0
AskedTexts extra None document texts = project_texts extra document ≡ texts
AskedTexts extra (Some group) document texts = ComesTo (group_step group (groups_in document)) texts

-- the bytes are a project file whose texts are these requirements, for an extra, or of a dependency
-- group
abbrev pub IsProjectOf : List ℕ → Option (List ℕ) → List ℕ → List RequirementParts → Type 0
IsProjectOf extra group bytes rs =
    (texts : List (List ℕ)) × ProjectTexts extra group bytes (Ok texts) × AllZip Reads texts rs
