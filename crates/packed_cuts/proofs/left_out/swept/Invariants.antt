use Rattle.std.proofs.Common.{◌+◌, length}
use Rattle.packed_cuts.specs.Way.LeftOut.{AreFalling, all_parts}
use Rattle.packed_cuts.proofs.Swept.{SweptTo}
use Rattle.packed_cuts.proofs.left_out.swept.Given as goal

abbrev pub invariant-parts : goal.invariant-parts
invariant-parts l =
    SweptTo l.fn.low (all_parts l.fn.singles.items l.fn.parts.items) (all_parts l.cuts.items l.left.items)
    l.ranges.items l.from
    × AreFalling l.cuts.items l.left.items

abbrev pub decreases-parts : goal.decreases-parts
decreases-parts l = length l.cuts.items + length l.left.items
