use Rattle.std.proofs.Common.{take}
use Rattle.std.specs.Prelude.{◌≢◌, string_bytes}
use Rattle.std.specs.List.{All}
use Rattle.texts.specs.Way.Arena.{text_at}
use Rattle.texts.proofs.arena.Arena.has.Given as goal

abbrev pub invariant-loop-piece : goal.invariant-loop-piece
invariant-loop-piece l = All (λ p. text_at (string_bytes l.self-inside.bytes) p ≢ l.text) (take l.piece-index l.self-inside.pieces.items)
