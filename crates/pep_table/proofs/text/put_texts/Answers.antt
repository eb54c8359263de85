use Rattle.std.proofs.Common.{◌∙◌, ◌++◌, [], rules, take}
use Rattle.pep_table.proofs.WrittenParts.{kind_line, one_more, parts_push}
use Rattle.pep_table.specs.TableText.{kind_lines, line}
use Rattle.pep_table.proofs.text.put_texts.Goals as goal

pub loop-i-preserved : goal.loop-i-preserved
loop-i-preserved g c = λ told.
    let texts = g.L.TextList.texts c.args.texts.now in
    let kind = g.K.LineKind.word c.args.kind.now in
    let front = kind_lines kind (take c.loop-i.i texts) in
    let x = c.text_at.result.now in
    one_more (g.T.TextOut.written c.args.text.now) front (line (c.front.result.now ++ x)) _
    (c.loop-i.invariant told) (c.in_ok-put_line.ensures.ok told)
    ((λ i. front ++ line (c.front.ensures i ++ c.text_at.ensures i))
    ∙ parts_push (kind_line kind) texts c.loop-i.i [] (search rules))
