use Rattle.std.proofs.Common.{◌≡◌, ◌∷◌, ◌+◌, length}
use Rattle.std.specs.Vec.Iter.{into_iter_items, into_iter_len}
use Rattle.pep_clause.proofs.Sweeping.{IsSwept}
use Rattle.pep_clause.proofs.sweep.moved_ranges.Given as goal

-- .. of each list the range at hand is the first that is left
abbrev pub invariant-sweep : goal.invariant-sweep
invariant-sweep l =
    IsSwept l.fn.ranges.items l.fn.other_ranges.items l.done.items (l.range ∷ into_iter_items l.left)
    (l.other ∷ into_iter_items l.right)
    × (into_iter_len l.left ≡ length (into_iter_items l.left))
    × (into_iter_len l.right ≡ length (into_iter_items l.right))

abbrev pub decreases-sweep : goal.decreases-sweep
decreases-sweep l = into_iter_len l.left + into_iter_len l.right
