-- The requirement texts of a project file: PyPA "pyproject.toml", "dependencies" and
-- "optional-dependencies" (PEP 621).
use Rattle.std.specs.Prelude.{ℕ, Bool, not, ◌||◌, ◌==◌, List, [], ◌∷◌, ◌++◌, length, find, codes}
use Rattle.std.specs.Prelude.{bytes_eq, Option, Some, None, option_map, option_and_then, unwrap_or}
use Rattle.std.specs.Prelude.{⊤, Result, Ok, if◌then◌else◌}
use Rattle.std.specs.List.{list_any}
use Rattle.toml.specs.Data.{Data, Members, no_members, member, get_member, as_table}
use Rattle.pep_marker.specs.Name.{name_of, normalized}
use Rattle.faults.specs.declared.fault.Cause.{Cause}
use Rattle.faults.specs.declared.fault.Cause.TheVariants.{NoProject, Dynamic, WrongShape}
use Rattle.documents.specs.Document.{◌>>=◌, check, document_of, required, texts_at, texts_of}

-- ---- extras: the arrays of `optional-dependencies`

-- an extra's normalized name, and the texts of its array
abbrev pub Extra : Type 0
Extra = List ℕ × List (List ℕ)

-- the texts of the extra with this normalized name
abbrev pub extra_at : List ℕ → List Extra → Option (List (List ℕ))
extra_at name extras = option_map (λ g. g.1) (find (λ g. bytes_eq g.0 name) extras)

abbrev pub has_extra : List ℕ → List Extra → Bool
has_extra name extras = list_any (λ g. bytes_eq g.0 name) extras

-- one extra more, of another name
abbrev pub with_extra : Option (List ℕ) → Option (List (List ℕ)) → Option (List Extra) →
    Option (List Extra)
with_extra (Some name) (Some texts) (Some extras) =
    if has_extra name extras then None else Some ((name, texts) ∷ extras)
with_extra _ _ _ = None

-- arrays of texts under keys that are names, all different when normalized
abbrev pub extras_of : Members → Option (List Extra)
extras_of no_members = Some []
extras_of (member key d ms) = with_extra (name_of key) (texts_of d) (extras_of ms)

-- the extras of a table, where a missing one is a table of none
abbrev pub extras_if_there : Option Data → Result (List Extra) Cause
extras_if_there None = Ok []
extras_if_there (Some d) = required WrongShape (option_and_then extras_of (as_table d))

-- .. at a key
abbrev pub extras_at : List ℕ → Members → Result (List Extra) Cause
extras_at key ms = extras_if_there (get_member key ms)

-- ---- the file

abbrev pub has_text : List ℕ → List (List ℕ) → Bool
has_text x xs = list_any (λ y. bytes_eq y x) xs

-- the project says here what is asked for, and leaves it to no tool
abbrev pub checks_dynamic : List ℕ → Members → Result ⊤ Cause
checks_dynamic extra project = do
  dynamic ← texts_at (codes "dynamic") project
  fixed ← check (not (has_text (codes "dependencies") dynamic)) Dynamic
  check (length extra == 0 || not (has_text (codes "optional-dependencies") dynamic)) Dynamic

-- the texts of `dependencies`, then those of the extra's array, or the first check that fails
abbrev pub project_texts : List ℕ → Members → Result (List (List ℕ)) Cause
project_texts extra document = do
  found ← required NoProject (get_member (codes "project") document)
  project ← required WrongShape (as_table found)
  static ← checks_dynamic extra project
  dependencies ← texts_at (codes "dependencies") project
  extras ← extras_at (codes "optional-dependencies") project
  Ok (dependencies ++ unwrap_or (extra_at (normalized extra) extras) [])

-- .. of the document that the bytes are
abbrev pub project_file : List ℕ → List ℕ → Result (List (List ℕ)) Cause
project_file extra bytes = document_of bytes >>= (λ document. project_texts extra document)
