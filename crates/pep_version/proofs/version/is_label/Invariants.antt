use Rattle.std.proofs.Common.{take}
use Rattle.std.specs.List.{All}
use Rattle.pep_version.specs.Version.{IsSegment, SegmentFits}
use Rattle.pep_version.specs.View.{segment_of}
use Rattle.pep_version.proofs.version.is_label.Given as goal

abbrev pub invariant-loop-segment : goal.invariant-loop-segment
invariant-loop-segment l =
    All (λ s. IsSegment (segment_of s)) (take l.segment-index l.label)
    × All (λ s. SegmentFits (segment_of s)) (take l.segment-index l.label)
