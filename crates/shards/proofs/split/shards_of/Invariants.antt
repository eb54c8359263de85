use Rattle.std.proofs.Common.{◌+◌, ◌≤◌, length}
use Rattle.texts.specs.Way.Split.{left_parts}
use Rattle.inputs.proofs.Pieces.{left_len}
use Rattle.inputs.specs.Lists.{lines_of}
use Rattle.shards.proofs.SplitLines.{SplitSoFar}
use Rattle.shards.proofs.split.shards_of.Given as goal

-- the lines before this place have these shards
abbrev pub invariant-loop-rest : goal.invariant-loop-rest
invariant-loop-rest l = record {
  lines : SplitSoFar l.fn.count (lines_of l.fn.bytes) l.number (left_parts 10 l.rest) l.shards.items;
  room : l.number + left_len l.rest ≤ length l.fn.bytes + 1;
}

abbrev pub decreases-loop-rest : goal.decreases-loop-rest
decreases-loop-rest l = left_len l.rest
