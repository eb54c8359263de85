use Rattle.std.proofs.Common.{map, take}
use Rattle.reasons.specs.Way.ClashSearch.{TakesClaims}
use Rattle.reasons.specs.View.{claims_at, placed_parts}
use Rattle.reasons.proofs.clash.take_found.Given as goal

abbrev pub invariant-loop-index : goal.invariant-loop-index
invariant-loop-index l =
    TakesClaims l.name l.fn.demands
    (claims_at (map placed_parts l.claims) (take l.index-index l.found)) l.demands
