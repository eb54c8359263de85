use Rattle.std.proofs.Common.{map}
use Rattle.reasons.specs.Way.Apart.{AreApart}
use Rattle.reasons.specs.View.{claims_at, placed_parts}
use Rattle.reasons.proofs.clash.Trial.are_apart.Given as goal

abbrev pub invariant-loop-own : goal.invariant-loop-own
invariant-loop-own l = AreApart (claims_at (map placed_parts l.self.claims.now) l.picked) l.points l.own
