-- What a sink was handed in pieces: what it tells, and what is still held.
use Rattle.std.specs.Prelude.{◌≡◌, ◌≢◌, ℕ, List, ◌∷◌, [], Option, None, Some, drop, slice_index}
use Rattle.std.specs.Io.KnownBytes.{append_known}

-- the bytes that a sink tells, behind a mark that says whether it tells them
abbrev pub marked : Option (List ℕ) → List ℕ
marked None = 0 ∷ []
marked (Some told) = 1 ∷ told

-- where the sink tells its bytes, these and those that are held are all that was taken
abbrev pub TellsTaken : List ℕ → Option (List ℕ) → List ℕ → Type 0
TellsTaken taken told held = (taken ≢ [])
    × (slice_index taken 0 ≡ 1 → append_known told held ≡ Some (drop 1 taken))
