-- What a list is whose bytes come from a reader, in whatever pieces.
use Rattle.std.specs.Prelude.{◌≡◌, ℕ, ◌+◌, ◌≤◌, ◌⊎◌, IsTrue, false, List, [], ◌∷◌, ◌++◌, All, length}
use Rattle.std.specs.Prelude.{IsUtf8, Option, None, Result, ◌↔◌, IfErr, IfOk, IsErrOf, OnOk}
use Rattle.std.specs.Io.KnownBytes.{Consumes, IsAtEnd}
use Rattle.devices.specs.Device.{Device}
use Rattle.texts.specs.Limits.{line_limit}
use Rattle.pep_marker.specs.Environment.{EnvironmentParts}
use Rattle.pep_require.specs.Reads.{Reads}
use Rattle.pep_require.specs.Requirement.{HasDefinedMarker, RequirementParts}
use Rattle.demands.specs.Table.{HasExactPoints, IsTable, TableParts}
use Rattle.faults.specs.declared.fault.Cause.TheVariants as cause
use Rattle.faults.specs.declared.fault.Fault.{Fault}
use Rattle.faults.specs.declared.fault.Place.TheVariants as place
use Rattle.documents.specs.RefusedProject.{IsOverflow}
use Rattle.inputs.specs.declared.input.Kind.TheVariants as kind
use Rattle.inputs.specs.Gathered.{AcceptsBytes, BytesDemand}
use Rattle.inputs.specs.Lists.{content, input_limit, is_skipped, lines_of}
use Rattle.inputs.specs.Refusal.{IsRefused, no_memory}

-- of a reader that tells its bytes: at most so many of them were read
abbrev pub ReadsUpTo : ℕ → Option (List ℕ) → Option (List ℕ) → Type 0
ReadsUpTo most left after =
    (bytes : List ℕ) × Consumes left after bytes × (length bytes ≤ most)

-- ---- the table of a list that was read

-- the bytes are accepted as a list, and this is the table of what they demand
pub record IsTableOfList (e : EnvironmentParts) (bytes : List ℕ) (t : TableParts) : Type 0 where
  pub accepted : AcceptsBytes e kind.List None bytes
  pub is_table : IsTable (BytesDemand e kind.List None bytes) t
  pub points : HasExactPoints (BytesDemand e kind.List None bytes) t

-- of a reader that tells its bytes: all that was left was read, and this is the table of these bytes
pub record ReadsTable (e : EnvironmentParts) (left after : Option (List ℕ)) (t : TableParts) :
    Type 0 where
  pub bytes : List ℕ
  pub reads : Consumes left after bytes
  pub whole : IsAtEnd after
  pub of_list : IsTableOfList e bytes t

-- ---- lines that have ended

-- a line that a list may have, by what a line is read as
pub record IsGoodLine (reads : List ℕ → RequirementParts → Type 0) (line : List ℕ) : Type 0 where
  pub short : length line ≤ line_limit
  pub text : IsUtf8 line
  pub requirement : is_skipped (content line) ≡ false → (r : RequirementParts)
      × reads (content line) r

-- what a line is read as, with a marker that is defined in the environment
abbrev pub ReadsDefined : EnvironmentParts → List ℕ → RequirementParts → Type 0
ReadsDefined e x r = Reads x r × HasDefinedMarker e r

-- Of a reader that tells its bytes: these were read, each line of them that has ended is one that a
-- list in the environment may have, and the last one is no longer than a line may be.
pub record HasGoodLines (e : EnvironmentParts) (left after : Option (List ℕ)) : Type 0 where
  pub bytes : List ℕ
  pub reads : Consumes left after bytes
  pub bound : length bytes ≤ input_limit
  pub ended : List (List ℕ)
  pub held : List ℕ
  pub split : lines_of bytes ≡ ended ++ held ∷ []
  pub good : All (IsGoodLine (ReadsDefined e)) ended
  pub short : length held ≤ line_limit

-- ---- refusals

-- what may stand behind the bytes that were read: nothing; or anything, where the reader had not
-- come to its end
abbrev pub MayFollow : Option (List ℕ) → List ℕ → Type 0
MayFollow after more = (more ≡ []) ⊎ ¬ IsAtEnd after

-- The bytes that were read are refused as a list, which is input 1, and so is each list that they
-- are the beginning of, where the reader had not come to its end. Unless the reader of URLs answered
-- its own overflow, none of these lists is accepted.
pub record RefusesRead (e : EnvironmentParts) (left after : Option (List ℕ)) (fault : Fault) :
    Type 0 where
  pub bytes : List ℕ
  pub reads : Consumes left after bytes
  pub bound : length bytes ≤ input_limit + 1
  pub lies : fault.place ≡ place.Input 1
  pub is_refused : (more : List ℕ) → MayFollow after more →
      IsRefused e kind.List None (bytes ++ more) fault.cause
  pub not_accepted : ¬ IsOverflow fault.cause → (more : List ℕ) → MayFollow after more →
      ¬ AcceptsBytes e kind.List None (bytes ++ more)

-- reading the list failed, which is input 1
abbrev pub failed_read : Fault
failed_read = record { place = place.Input 1; cause = cause.ReadFault }

-- Why a list is refused that is read: reading it failed, and no line before that is at fault; or the
-- bytes that were read are.
pub data RefusesReading (e : EnvironmentParts) (left after : Option (List ℕ)) (source : Device)
    (fault : Fault) : Type 0 where
  by_failure : IsTrue source.failed → fault ≡ failed_read → HasGoodLines e left after →
      RefusesReading e left after source fault
  by_bytes : source.failed ≡ false → RefusesRead e left after fault →
      RefusesReading e left after source fault

-- ---- reading a list

-- What comes of reading a list from a source: the table of what it demands, or why it is refused. It
-- fails with 58 exactly if a read failed. At most the bytes of the largest list are read and one
-- more, by at most as many calls.
pub record ReadsList (e : EnvironmentParts) (left after : Option (List ℕ)) (source : Device)
    (result : Result TableParts Fault) : Type 0 where
  pub table : IfOk result (ReadsTable e left after)
  pub no_failure : OnOk result (source.failed ≡ false)
  pub refused : IfErr result (λ fault. (fault ≡ no_memory) ⊎ RefusesReading e left after source fault)
  pub failed : IsTrue source.failed ↔ IsErrOf result failed_read
  pub bytes : ReadsUpTo (input_limit + 1) left after
  pub calls : source.calls ≤ input_limit + 1
