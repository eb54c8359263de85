use Rattle.std.proofs.Common.{◌≡◌, length, map}
use Rattle.std.specs.Vec.Iter.{into_iter_items, into_iter_len}
use Rattle.documents.specs.Way.GroupViews.{group_view}
use Rattle.documents.proofs.GroupTables.{ArraysSoFar}
use Rattle.documents.proofs.groups.arrays_of.Given as goal

-- the groups before those that are left have their arrays in the map
abbrev pub invariant-loop-group : goal.invariant-loop-group
invariant-loop-group l =
    ArraysSoFar (map group_view (into_iter_items l.initial.group-iterator))
    (map group_view (into_iter_items l.group-iterator)) l.arrays
    × (into_iter_len l.group-iterator ≡ length (into_iter_items l.group-iterator))
