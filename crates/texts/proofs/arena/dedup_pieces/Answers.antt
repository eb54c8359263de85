use Rattle.std.proofs.Common.{rules}
use Rattle.std.proofs.lemmas.Fn.{dedup_same}
use Rattle.texts.specs.Way.Arena.{same_piece}
use Rattle.texts.proofs.arena.dedup_pieces.Goals as goal

pub returns : goal.returns
returns c = dedup_same _ (same_piece c.args.bytes.now) _ (λ x y b f' x' y' k. search rules) _ _ c.dedup_by.ensures.filtered
