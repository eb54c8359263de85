use Rattle.std.proofs.Common.{◌+◌, ◌++◌, ◌≡◌, ◌≤◌, length, option_map}
use Rattle.inputs.specs.Way.LineReading.{IsHeld, SoFar}
use Rattle.inputs.specs.Way.Part.{lent}
use Rattle.inputs.proofs.Pieces.{left_len, left_lines}
use Rattle.inputs.proofs.lines.take_piece.Given as goal

-- the lines of the piece up to what is left are taken
abbrev pub invariant-loop-left : goal.invariant-loop-left
invariant-loop-left g l = record {
  same : l.taker ≡ l.fn.taker;
  lines : SoFar (g.T.Taker.takes l.fn.taker) (l.fn.so_far.held.items ++ l.fn.piece)
      l.fn.so_far.number l.so_far.number
      (left_lines l.so_far.held.items (option_map lent l.left)) l.fn.so_far.taken l.so_far.taken;
  held : IsHeld l.so_far.held.items;
  room : l.so_far.number + left_len (option_map lent l.left)
      ≤ l.fn.so_far.number + length l.fn.piece + 1;
}

abbrev pub decreases-loop-left : goal.decreases-loop-left
decreases-loop-left g l = left_len (option_map lent l.left)
