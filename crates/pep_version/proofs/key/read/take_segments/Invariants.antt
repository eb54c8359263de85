use Rattle.std.proofs.Common.{length, map}
use Rattle.pep_version.specs.KeyReading.{read_segment, read_segments}
use Rattle.pep_version.specs.View.{segment_of}
use Rattle.pep_version.proofs.KeyLoops.{SoFar}
use Rattle.pep_version.proofs.key.read.take_segments.Given as goal

abbrev pub invariant-loop-rest : goal.invariant-loop-rest
invariant-loop-rest l =
    SoFar read_segment (read_segments l.bytes) (map segment_of l.label.items) l.rest

abbrev pub decreases-loop-rest : goal.decreases-loop-rest
decreases-loop-rest l = length l.rest
