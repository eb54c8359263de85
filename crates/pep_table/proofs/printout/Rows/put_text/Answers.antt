use Rattle.std.proofs.Common.{◌∙◌, ◌++◌, ap, sym}
use Rattle.std.proofs.lemmas.Result.{on_ok_weaker}
use Rattle.pep_table.specs.Way.Printout.{in_blocks, rows_text}
use Rattle.pep_table.proofs.WrittenParts.{one_more, rows_text-append}
use Rattle.pep_table.proofs.printout.Rows.put_text.Goals as goal

pub returns-clause-ok : goal.returns-clause-ok
returns-clause-ok g c =
    let written = g.T.TextOut.written in
    let old = written c.args.text.now in
    let mid = written c.put_blocks.new.text in
    let full = in_blocks c.self.inside.full.items in
    let rows = c.self.inside.last.items in
    on_ok_weaker c.put_rows.result (λ last told.
    one_more old (rows_text full) (rows_text rows) _
    (c.in_ok-put_blocks.ensures.ok told ∙ ap (λ b. old ++ rows_text (in_blocks b)) c.as_slice.ensures.value)
    (last told ∙ ap (λ r. mid ++ rows_text r) c.as_slice-2.ensures.value)
    (sym (rows_text-append full rows) ∙ ap rows_text c.self.view_is))
    c.put_rows.ensures.ok
