use Rattle.std.proofs.Common.{◌∙◌, ◌++◌, ap, take}
use Rattle.pep_table.specs.Way.Printout.{row_text, rows_text}
use Rattle.pep_table.proofs.WrittenParts.{one_more, parts_push}
use Rattle.pep_table.proofs.printout.Rows.put_rows.Goals as goal

pub loop-row-preserved : goal.loop-row-preserved
loop-row-preserved g c = λ told.
    let rows = c.args.rows.now in
    let i = c.loop-row.row-index in
    let front = rows_text (take i rows) in
    one_more (g.T.TextOut.written c.args.text.now) front (row_text c.row-item.result) _ (c.loop-row.invariant told)
    (c.in_ok-put_text.ensures.ok told)
    (ap (λ r. front ++ row_text r) c.row-item.is ∙ parts_push row_text rows i c.row-item.result c.loop-row-test.true)
