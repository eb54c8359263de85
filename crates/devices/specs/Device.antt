-- Devices that give or take bytes.
use Rattle.std.specs.Prelude.{◌≡◌, ℕ, ◌+◌, ◌-◌, ◌^◌, ◌<◌, ⊤, Bool, false, List, take}
use Rattle.std.specs.Prelude.{Option, None, Result, is_err, MatchResult}
use Rattle.std.specs.Io.KnownBytes.{Appends}

-- how many calls a device has had, whether one has failed, and, where that is told, which device it
-- is
pub record Device : Type 0 where
  pub calls : ℕ
  pub failed : Bool
  pub identity : Option (List ℕ)

-- a device with no call, which doesn't tell which it is
abbrev pub fresh_device : Device
fresh_device = record { calls = 0; failed = false; identity = None }

-- a reader or a writer whose calls are counted
pub record Counting (D : Type 0) : Type 0 where
  pub inner : D
  pub device : Device

-- the bytes that are left, and the calls so far, of a reader over a slice
pub record Reading : Type 0 where
  pub left : List ℕ
  pub calls : ℕ

-- the device may be called: no call has failed, and the next one can be counted
abbrev pub IsReady : Device → Type 0
IsReady d = (d.failed ≡ false) × (d.calls < 2 ^ 64 - 1)

-- the device has had no call
abbrev pub IsFresh : Device → Type 0
IsFresh d = (d.calls ≡ 0) × (d.failed ≡ false)

-- a call counts, the device has failed exactly where the call did, and it stays the same device
abbrev pub CountsCall : {A E : Type 0} → Device → Device → Result A E → Type 0
CountsCall old new result = (new.calls ≡ old.calls + 1) × (new.failed ≡ is_err result)
    × (new.identity ≡ old.identity)

-- Of a sink that tells its bytes: at Ok the text was written, and at a fault a part from its front
abbrev pub WritesText : {E : Type 0} → List ℕ → Option (List ℕ) → Option (List ℕ) → Result ⊤ E →
    Type 0
WritesText text old new result =
    MatchResult result (λ done. Appends old new text) (λ fault. (n : ℕ)
    × Appends old new (take n text))
