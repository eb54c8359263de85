-- What is known of files, which are found by their paths.
use Rattle.std.specs.Prelude.{ℕ, Bool, true, List, Option, None}

-- the bytes of a file and the identity of its device, where they are told, and whether opening it
-- may succeed, and may fail, lack of memory apart
pub record KnownFile : Type 0 where
  pub bytes : Option (List ℕ)
  pub identity : Option (List ℕ)
  pub may_open : Bool
  pub may_fail : Bool

abbrev pub unknown_files : List ℕ → KnownFile
unknown_files path = record { bytes = None; identity = None; may_open = true; may_fail = true }
