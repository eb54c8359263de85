-- What a refusal says of a project file: which of its texts is at fault, and why; and what refusals of
-- other inputs share with it: an element by its number, and the overflow of the reader of URLs.
use Rattle.std.specs.Prelude.{◌≡◌, ◌≢◌, ℕ, ◌+◌, List, ◌∷◌, ◌++◌, length, Ok, Err, Option}
use Rattle.pep_require.specs.LineParts.{RefusesLine}
use Rattle.pep_require.specs.declared.fault.RequireFault.{RequireFault}
use Rattle.pep_require.specs.declared.fault.RequireFault.TheVariants as require
use Rattle.faults.specs.declared.fault.Cause.{Cause}
use Rattle.faults.specs.declared.fault.Cause.TheVariants as cause
use Rattle.faults.specs.declared.fault.LineFault.TheVariants as line_fault
use Rattle.documents.specs.ProjectRequirements.{ProjectTexts}

-- the element with this number, counted from 1
pub record IsNumbered {A : Type 0} (xs : List A) (number : ℕ) (x : A) : Type 0 where
  pub before : List A
  pub behind : List A
  pub whole : xs ≡ before ++ x ∷ behind
  pub counted : number ≡ length before + 1

-- the cause names a text that is refused as a requirement, by its number
pub record IsRefusedText (texts : List (List ℕ)) (c : Cause) : Type 0 where
  pub number : ℕ
  pub text : List ℕ
  pub numbered : IsNumbered texts number text
  pub reason : RequireFault
  pub known : reason ≢ require.NoMemory
  pub refuses : RefusesLine text reason
  pub is : c ≡ cause.Line number (line_fault.Requirement reason)

-- Why bytes are refused as a project file, for an extra or a dependency group: a check of the file
-- fails, or one of its texts is refused.
pub data IsRefusedProject (extra : List ℕ) (group : Option (List ℕ)) (bytes : List ℕ) (c : Cause) :
    Type 0 where
  by_check : ProjectTexts extra group bytes (Err c) → IsRefusedProject extra group bytes c
  by_text : (texts : List (List ℕ)) → ProjectTexts extra group bytes (Ok texts) →
      IsRefusedText texts c → IsRefusedProject extra group bytes c

-- the reader of URLs answered its own overflow, of which no more is known than `RefusesLine` says
abbrev pub IsOverflow : Cause → Type 0
IsOverflow c =
    (number : ℕ) × (c ≡ cause.Line number (line_fault.Requirement require.UrlOverflow))
