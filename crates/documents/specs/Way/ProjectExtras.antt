-- What the code finds among the extras of a project file.
use Rattle.std.specs.Prelude.{◌≡◌, ℕ, List, [], Result, Ok, unwrap_or}
use Rattle.faults.specs.declared.fault.Cause.{Cause}
use Rattle.documents.specs.Project.{Extra, extra_at}

-- the checks of the extras pass, and these are the texts of the one with the wanted name, or none
abbrev pub HasExtraTexts : Result (List Extra) Cause → List ℕ → List (List ℕ) → Type 0
HasExtraTexts checked wanted texts = (extras : List Extra) × (checked ≡ Ok extras)
    × (texts ≡ unwrap_or (extra_at wanted extras) [])
