use Rattle.std.proofs.Common.{◌≡◌, ◌+◌, ◌++◌, ◌≤◌, List, length, map}
use Rattle.std.specs.List.{join_with_byte}
use Rattle.pep_version.specs.KeyReading.{read_segment, read_segments}
use Rattle.pep_version.specs.Text.{segment_text}
use Rattle.pep_version.specs.Version.{Segment}
use Rattle.pep_version.proofs.KeyLoops.{SoFar}
use Rattle.pep_version.proofs.key.text.put_segments_at.Given as goal

abbrev pub invariant-loop-rest : goal.invariant-loop-rest
invariant-loop-rest g l =
    (done : List Segment) × SoFar read_segment (read_segments l.bytes) done l.rest × (l.count ≡ length done)
    × (length done + length l.rest ≤ length l.bytes)
    × (g.T.TextOut.tells → g.T.TextOut.written l.text
    ≡ g.T.TextOut.written l.initial.text ++ join_with_byte 46 (map segment_text done))

abbrev pub decreases-loop-rest : goal.decreases-loop-rest
decreases-loop-rest g l = length l.rest
