use Rattle.std.proofs.Common.{arith}
use Rattle.std.proofs.lemmas.Str.{IsCharBoundary-after_ascii}
use Rattle.inputs.proofs.lines.cut_text.Goals as goal

pub split_at-requires-2 : goal.split_at-requires-2
split_at-requires-2 c =
    IsCharBoundary-after_ascii c.args.text.now c.args.at c.utf8.text (omega (arith, c.requires.within))
    (omega (arith, c.requires.feed))
