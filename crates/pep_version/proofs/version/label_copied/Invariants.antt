use Rattle.std.proofs.Common.{◌≡◌, map, take}
use Rattle.pep_version.specs.View.{segment_of}
use Rattle.pep_version.proofs.version.label_copied.Given as goal

abbrev pub invariant-loop-segment : goal.invariant-loop-segment
invariant-loop-segment l =
    map segment_of l.copy.items ≡ map segment_of (take l.segment-index l.label)
