use Rattle.std.proofs.Common.{◌≡◌, ◌++◌, drop}
use Rattle.pep_version.specs.ByteOrder.{ended}
use Rattle.pep_version.specs.KeyBytes.{segment_bytes}
use Rattle.pep_version.specs.View.{segment_of}
use Rattle.pep_version.proofs.key.bytes.push_segments.Given as goal

-- with the code of what is left behind it, the output has the whole code
abbrev pub invariant-loop-segment : goal.invariant-loop-segment
invariant-loop-segment l = l.bytes.items ++ ended (λ s. segment_bytes (segment_of s)) (drop l.segment-index l.label)
    ≡ l.fn.bytes.items ++ ended (λ s. segment_bytes (segment_of s)) l.label
