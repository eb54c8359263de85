use Rattle.std.proofs.Common.{List, length}
use Rattle.pep_version.specs.KeyReading.{read_segment, read_segments}
use Rattle.pep_version.specs.Version.{Segment}
use Rattle.pep_version.proofs.KeyLoops.{SoFar}
use Rattle.pep_version.proofs.key.text.behind_segments.Given as goal

abbrev pub invariant-loop-rest : goal.invariant-loop-rest
invariant-loop-rest l =
    (done : List Segment) × SoFar read_segment (read_segments l.bytes) done l.rest

abbrev pub decreases-loop-rest : goal.decreases-loop-rest
decreases-loop-rest l = length l.rest
