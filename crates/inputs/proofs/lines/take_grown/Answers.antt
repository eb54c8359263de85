use Rattle.std.proofs.Common.{◌∙◌, inr, subst}
use Rattle.std.proofs.lemmas.Result.{IfErr-weaker}
use Rattle.inputs.specs.Way.LineReading.{RefusesLineBytes}
use Rattle.inputs.proofs.lines.take_grown.Goals as goal

pub returns-clause-refused : goal.returns-clause-refused
returns-clause-refused g c =
    IfErr-weaker c.take_line.result _ _
    (λ fault h. inr (subst (λ l. RefusesLineBytes (g.T.Taker.refuses c.args.taker.now) l fault)
    (c.as_slice.ensures.value ∙ c.in_ok-line.ensures.ok.0) h)) c.take_line.ensures.refused
