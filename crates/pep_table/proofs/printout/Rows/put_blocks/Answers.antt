use Rattle.std.proofs.Common.{◌∙◌, ◌++◌, ap, take}
use Rattle.pep_table.specs.Way.Printout.{in_blocks, rows_text}
use Rattle.pep_table.proofs.WrittenParts.{block_lines, one_more}
use Rattle.pep_table.proofs.printout.Rows.put_blocks.Goals as goal

pub loop-block-preserved : goal.loop-block-preserved
loop-block-preserved g c = λ told.
    let blocks = c.args.blocks.now in
    let i = c.loop-block.block-index in
    let front = rows_text (in_blocks (take i blocks)) in
    one_more (g.T.TextOut.written c.args.text.now) front (rows_text c.as_slice.result.now) _
    (c.loop-block.invariant told) (c.in_ok-put_rows.ensures.ok told)
    (ap (λ rows. front ++ rows_text rows) c.as_slice.ensures.value
    ∙ ap (λ b. front ++ rows_text b.items) c.block-item.is
    ∙ block_lines blocks i c.block-item.result c.loop-block-test.true)
