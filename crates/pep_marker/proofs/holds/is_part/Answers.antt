use Rattle.std.proofs.lemmas.Str.Pattern.{contains_text}
use Rattle.pep_marker.proofs.TextTruth.{same_part}
use Rattle.pep_marker.proofs.holds.is_part.Goals as goal

pub returns : goal.returns
returns c =
    same_part c.args.part.now c.args.text.now c.contains.result
    (contains_text c.contains.result c.args.part.now c.args.text.now c.contains.ensures.cases)
