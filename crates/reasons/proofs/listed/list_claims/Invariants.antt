use Rattle.std.proofs.Common.{◌+◌, ◌≤◌, length, map}
use Rattle.texts.specs.Way.Split.{left_parts}
use Rattle.inputs.proofs.Pieces.{left_len}
use Rattle.reasons.specs.Way.Asked.{asked_parts}
use Rattle.reasons.specs.Way.ClaimSearch.{ListedSoFar}
use Rattle.reasons.proofs.listed.list_claims.Given as goal

-- the claims of the lines up to what is left were added
abbrev pub invariant-loop-left : goal.invariant-loop-left
invariant-loop-left l = record {
  lines : ListedSoFar l.environment l.bytes l.input l.number (left_parts 10 l.left)
      (map asked_parts l.fn.asked.items) (map asked_parts l.asked.items);
  room : l.number + left_len l.left ≤ length l.bytes + 1;
}

abbrev pub decreases-loop-left : goal.decreases-loop-left
decreases-loop-left l = left_len l.left
