use Rattle.std.proofs.Common.{length}
use Rattle.packed_cuts.proofs.LeftOver.{JoinsParts}
use Rattle.packed_cuts.proofs.left_out.merged.Given as goal

abbrev pub invariant-parts : goal.invariant-parts
invariant-parts l = JoinsParts l.fn.parts.items l.joined.items l.left.items

abbrev pub decreases-parts : goal.decreases-parts
decreases-parts l = length l.left.items
