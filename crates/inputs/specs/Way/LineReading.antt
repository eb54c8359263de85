-- How the code reads the lines of a list, whatever their texts are taken for: no meaning rests on
-- this.
use Rattle.std.specs.Prelude.{Bool, Option, Some, None, ◌<◌, ◌+◌, ◌≡◌, ◌≢◌, ℕ, ◌≤◌, ◌⊎◌, true, false}
use Rattle.std.specs.List.{AllByRecursion}
use Rattle.std.specs.Prelude.{List, [], ◌∷◌, ◌++◌, All, length, IsUtf8}
use Rattle.texts.specs.Limits.{line_limit}
use Rattle.pep_require.specs.declared.fault.RequireFault.TheVariants as require
use Rattle.faults.specs.declared.fault.Cause.{Cause}
use Rattle.faults.specs.declared.fault.Cause.TheVariants as cause
use Rattle.faults.specs.declared.fault.LineFault.{LineFault}
use Rattle.faults.specs.declared.fault.LineFault.TheVariants as line_fault
use Rattle.documents.specs.RefusedProject.{IsNumbered}
use Rattle.inputs.specs.Lists.{HasText, lines_of, requirement_lines, requirements_among}
use Rattle.texts.specs.Limits.{input_limit}
use Rattle.inputs.specs.Refusal.{IsRefusedLine, IsRefusedList}
use Rattle.inputs.specs.Streams.{MayFollow}
use Rattle.std.specs.Io.KnownBytes.{Consumes, IsAtEnd}

-- ---- what is taken

-- the texts are taken one after the other, by what a text makes of what was taken before it
abbrev pub TakesInTurn : {A : Type 0} → (List ℕ → A → A → Type 0) → List (List ℕ) → A → A → Type 0
TakesInTurn takes [] old new = old ≡ new
TakesInTurn {A} takes (x ∷ xs) old new = (mid : A) × takes x old mid × TakesInTurn takes xs mid new

-- .. if there is one
abbrev pub TakesFound : {A : Type 0} → (List ℕ → A → A → Type 0) → Option (List ℕ) → A → A → Type 0
TakesFound takes None old new = old ≡ new
TakesFound takes (Some x) old new = takes x old new

-- the line is one that a list may have, and its text is taken
abbrev pub TakesLine : {A : Type 0} → (List ℕ → A → A → Type 0) → List ℕ → A → A → Type 0
TakesLine takes line old new =
    (found : Option (List ℕ)) × HasText line found × TakesFound takes found old new

-- the lines are lines that a list may have, and their texts are taken in turn
pub record TakesLines {A : Type 0} (takes : List ℕ → A → A → Type 0) (bytes : List ℕ) (old new : A)
    : Type 0 where
  pub size : length bytes ≤ input_limit
  pub short : All (λ line. length line ≤ line_limit) (lines_of bytes)
  pub texts : All IsUtf8 (lines_of bytes)
  pub taken : TakesInTurn takes (requirement_lines bytes) old new

-- ---- refusals

-- the text on the line is refused
pub record RefusesTextOn (refuses : List ℕ → LineFault → Type 0) (line : List ℕ) (f : LineFault) :
    Type 0 where
  pub text : List ℕ
  pub has : HasText line (Some text)
  pub refused : refuses text f

-- why a line is refused: a fault of its own, or one that its text is refused for
abbrev pub RefusesLineBytes : (List ℕ → LineFault → Type 0) → List ℕ → LineFault → Type 0
RefusesLineBytes refuses line f = IsRefusedLine line f ⊎ RefusesTextOn refuses line f

-- the cause of a fault of a line: lack of memory has no place
pub record IsCauseOf (number : ℕ) (f : LineFault) (c : Cause) : Type 0 where
  pub memory : f ≡ line_fault.Requirement require.NoMemory → c ≡ cause.NoMemory
  pub told : f ≢ line_fault.Requirement require.NoMemory → c ≡ cause.Line number f

-- the cause names a line whose text is refused; of lack of memory nothing is said
pub record RefusesTextOf (refuses : List ℕ → LineFault → Type 0) (bytes : List ℕ) (c : Cause) :
    Type 0 where
  pub number : ℕ
  pub line : List ℕ
  pub numbered : IsNumbered (lines_of bytes) number line
  pub fault : LineFault
  pub refused : RefusesTextOn refuses line fault
  pub is : IsCauseOf number fault c

-- Why bytes are refused as a list: lack of memory, of which nothing is said, or a fault of theirs.
abbrev pub RefusesList : (List ℕ → LineFault → Type 0) → List ℕ → Cause → Type 0
RefusesList refuses bytes c =
    (c ≡ cause.NoMemory) ⊎ (IsRefusedList bytes c ⊎ RefusesTextOf refuses bytes c)

-- ---- bytes that come in pieces

-- the line that has not ended so far: it has no line feed, and no more than a line may have
pub record IsHeld (held : List ℕ) : Type 0 where
  pub one_line : lines_of held ≡ held ∷ []
  pub short : length held ≤ line_limit

-- The lines of the bytes before those that are left are lines that a list may have, and their texts
-- are taken; the number of lines grows by theirs.
pub record SoFar {A : Type 0} (takes : List ℕ → A → A → Type 0) (bytes : List ℕ) (start number : ℕ)
    (left : List (List ℕ)) (old new : A) : Type 0 where
  pub done : List (List ℕ)
  pub split : lines_of bytes ≡ done ++ left
  pub short : AllByRecursion (λ line. length line ≤ line_limit) done
  pub texts : AllByRecursion IsUtf8 done
  pub taken : TakesInTurn takes (requirements_among done) old new
  pub counted : number ≡ start + length done

-- .. and the one that is left has not ended
pub record HasTaken {A : Type 0} (takes : List ℕ → A → A → Type 0) (bytes : List ℕ) (start : ℕ)
    (old : A) (number : ℕ) (held : List ℕ) (new : A) : Type 0 where
  pub lines : SoFar takes bytes start number (held ∷ []) old new
  pub is_held : IsHeld held

-- why a line that has not ended can't grow to these bytes: lack of memory, or their number
abbrev pub RefusesGrowth : List ℕ → LineFault → Type 0
RefusesGrowth line f =
    (f ≡ line_fault.Requirement require.NoMemory)
    ⊎ ((f ≡ line_fault.Requirement require.LineTooLong) × (line_limit < length line))

-- why a line is refused of which a part was held
abbrev pub RefusesWhole : (List ℕ → LineFault → Type 0) → List ℕ → LineFault → Type 0
RefusesWhole refuses line f =
    (f ≡ line_fault.Requirement require.NoMemory) ⊎ RefusesLineBytes refuses line f

-- the cause of a line with this number that has ended and is refused ..
abbrev pub RefusesEnded : (List ℕ → LineFault → Type 0) → ℕ → List ℕ → Cause → Type 0
RefusesEnded refuses number line c =
    (c ≡ cause.NoMemory) ⊎ ((f : LineFault) × RefusesLineBytes refuses line f × IsCauseOf number f c)

-- .. and of one that hasn't, but is longer than a line may be
abbrev pub RefusesHeld : ℕ → List ℕ → Cause → Type 0
RefusesHeld number line c =
    (c ≡ cause.NoMemory)
    ⊎ ((c ≡ cause.Line number (line_fault.Requirement require.LineTooLong))
    × (line_limit < length line))

-- Why bytes behind so many lines are refused, whatever stands behind them: each list is refused so
-- whose lines are those and then the lines of the bytes and of what stands behind them.
abbrev pub RefusesPiece : (List ℕ → LineFault → Type 0) → ℕ → List ℕ → Cause → Type 0
RefusesPiece refuses number piece c =
    (bytes more : List ℕ) (before : List (List ℕ)) → length before ≡ number →
    lines_of bytes ≡ before ++ lines_of (piece ++ more) → RefusesList refuses bytes c

-- ---- bytes that a source gives

-- of a source that tells its bytes: all that was left was read, and the texts on its lines are taken
pub record TakesSource {A : Type 0} (takes : List ℕ → A → A → Type 0)
    (left after : Option (List ℕ)) (old new : A) : Type 0 where
  pub bytes : List ℕ
  pub reads : Consumes left after bytes
  pub whole : IsAtEnd after
  pub taken : TakesLines takes bytes old new

-- Why the bytes of a source are refused as a list: lack of memory; or a read failed, and the lines
-- before are taken; or what was read, and all lists that begin so where the source goes on.
pub data RefusesSource {A : Type 0} (takes : List ℕ → A → A → Type 0)
    (refuses : List ℕ → LineFault → Type 0) (left after : Option (List ℕ)) (failed : Bool) (old : A)
    (c : Cause) : Type 0 where
  by_memory : c ≡ cause.NoMemory → RefusesSource takes refuses left after failed old c
  by_failure : (bytes held : List ℕ) (number : ℕ) (new : A) → failed ≡ true → c ≡ cause.ReadFault →
      Consumes left after bytes → length bytes ≤ input_limit →
      HasTaken takes bytes 0 old number held new →
      RefusesSource takes refuses left after failed old c
  by_bytes : (bytes : List ℕ) → failed ≡ false → Consumes left after bytes →
      length bytes ≤ input_limit + 1
      → ((more : List ℕ) → MayFollow after more → RefusesList refuses (bytes ++ more) c) →
      RefusesSource takes refuses left after failed old c
