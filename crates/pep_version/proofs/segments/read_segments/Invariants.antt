use Rattle.std.proofs.Common.{◌≡◌, ◌++◌, Bor, List, None, Option, Some, length, map, suc, true, ℕ}
use Rattle.std.specs.List.{AllByRecursion, list_all}
use Rattle.pep_version.specs.Way.Slices.{label_of, left_runs}
use Rattle.pep_version.specs.Spelling.{is_run}
use Rattle.pep_version.specs.Version.{SegmentFits}
use Rattle.pep_version.specs.View.{segment_of}
use Rattle.pep_version.proofs.segments.read_segments.Given as goal

abbrev left_len : Option (Bor (List ℕ)) → ℕ
left_len None = 0
left_len (Some rest) = suc (length rest.now)

abbrev pub invariant-loop-rest : goal.invariant-loop-rest
invariant-loop-rest l =
    (map segment_of l.segments.items ++ label_of l.rest ≡ label_of l.fn.label)
    × (list_all is_run (left_runs l.rest) ≡ true)
    × AllByRecursion SegmentFits (map segment_of l.segments.items)

abbrev pub decreases-loop-rest : goal.decreases-loop-rest
decreases-loop-rest l = left_len l.rest
