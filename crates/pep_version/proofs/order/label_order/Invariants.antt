use Rattle.std.proofs.Common.{◌≡◌, length, map}
use Rattle.std.specs.Cmp.Lexicographic.{slice_cmp}
use Rattle.pep_version.specs.Order.{segment_cmp}
use Rattle.pep_version.specs.View.{segment_of}
use Rattle.pep_version.proofs.order.label_order.Given as goal

abbrev pub invariant-segments : goal.invariant-segments
invariant-segments l =
    slice_cmp segment_cmp (map segment_of l.left) (map segment_of l.right)
    ≡ slice_cmp segment_cmp (map segment_of l.label) (map segment_of l.other)

abbrev pub decreases-segments : goal.decreases-segments
decreases-segments l = length l.left
