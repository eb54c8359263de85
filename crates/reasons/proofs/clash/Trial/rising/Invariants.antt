use Rattle.std.proofs.Common.{map}
use Rattle.reasons.specs.View.{placed_parts}
use Rattle.reasons.proofs.PickedClaims.{RisenTo}
use Rattle.reasons.proofs.clash.Trial.rising.Given as goal

abbrev pub invariant-loop-index : goal.invariant-loop-index
invariant-loop-index l = RisenTo (map placed_parts l.self.claims.now) l.few.items l.next
