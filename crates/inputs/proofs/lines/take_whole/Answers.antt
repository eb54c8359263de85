use Rattle.std.proofs.Common.{◌≡◌, ◌==◌, ◌++◌, ◌∙◌, [], ap, inr, subst, sym}
use Rattle.std.proofs.lemmas.Result.{IfErr-weaker}
use Rattle.texts.proofs.ListLemmas.{nothing_in}
use Rattle.inputs.specs.Way.LineReading.{RefusesWhole}
use Rattle.inputs.proofs.lines.take_whole.Goals as goal

pub returns-then-is_empty-clause-refused : goal.returns-then-is_empty-clause-refused
returns-then-is_empty-clause-refused g c =
    let none : c.args.held.items ≡ [] =
    nothing_in c.args.held.items
    (ap (λ n. n == 0) (sym c.args.held.ok.0) ∙ sym c.is_empty.ensures ∙ c.if-is_empty.true) in
    rw none (IfErr-weaker c.take_line.result _ _ (λ fault h. inr h) c.take_line.ensures.refused)

pub returns-clause-refused : goal.returns-clause-refused
returns-clause-refused g c =
    IfErr-weaker c.take_grown.result _ _
    (λ fault h. subst (λ l. RefusesWhole (g.T.Taker.refuses c.args.taker.now)
    (c.args.held.items ++ l) fault) c.bytes.ensures h) c.take_grown.ensures.refused
