use Rattle.std.proofs.Common.{◌≡◌, map, take}
use Rattle.std.specs.Prelude.{string_bytes}
use Rattle.texts.specs.Way.Arena.{text_at}
use Rattle.texts.proofs.arena.Arena.packed.Given as goal

abbrev pub invariant-loop-piece : goal.invariant-loop-piece
invariant-loop-piece l =
    l.all ≡ map (text_at (string_bytes l.self-inside.bytes)) (take l.piece-index l.self-inside.pieces.items)
