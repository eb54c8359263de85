-- What goes out into the room that a caller gives.
use Rattle.std.specs.Prelude.{◌≡◌, ℕ, ◌<◌, ◌≤◌, ◌⊎◌, List, length, take, drop}
use Rattle.faults.specs.FaultLine.{fault_line}
use Rattle.faults.specs.NoMemory.{no_memory}
use Rattle.faults.specs.declared.fault.Fault.{Fault}

-- The text goes out: this is its length. Where the room has as many bytes, they are the text, and
-- those behind it are as they were; where it has fewer, all are as they were.
pub record GoesOut (text : List ℕ) (size : ℕ) (old new : List ℕ) : Type 0 where
  pub counted : size ≡ length text
  pub written : size ≤ length old → take size new ≡ text
  pub behind : size ≤ length old → drop size new ≡ drop size old
  pub kept : length old < size → new ≡ old

-- a text of this kind goes out
abbrev pub GivesText : (List ℕ → Type 0) → ℕ → List ℕ → List ℕ → Type 0
GivesText Is size old new = (text : List ℕ) × Is text × GoesOut text size old new

-- the line of such a refusal goes out, or that of lack of memory
abbrev pub TellsRefusal : (Fault → Type 0) → ℕ → List ℕ → List ℕ → Type 0
TellsRefusal refuses size old new =
    (fault : Fault) × ((fault ≡ no_memory) ⊎ refuses fault) × GoesOut (fault_line fault) size old new

-- nothing goes out
abbrev pub GivesNothing : ℕ → List ℕ → List ℕ → Type 0
GivesNothing size old new = (size ≡ 0) × (new ≡ old)
