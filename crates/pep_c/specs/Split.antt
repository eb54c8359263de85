-- Why a list isn't split.
use Rattle.std.specs.Prelude.{◌≡◌, ℕ, List}
use Rattle.faults.specs.declared.fault.Fault.{Fault}
use Rattle.faults.specs.declared.fault.Place.TheVariants as place
use Rattle.shards.specs.Shards.{HasNoShards}

-- the first line of input 1 that has no shard is told
abbrev pub RefusesSplit : List ℕ → Fault → Type 0
RefusesSplit bytes fault = (fault.place ≡ place.Input 1) × HasNoShards bytes fault.cause
