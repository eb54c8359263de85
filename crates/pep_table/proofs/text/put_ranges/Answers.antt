use Rattle.std.proofs.Common.{◌∙◌, ◌++◌, ap, codes, map, take}
use Rattle.pep_table.proofs.WrittenParts.{lines_push, one_more}
use Rattle.pep_table.specs.TableText.{kind_lines, line, range_text}
use Rattle.pep_table.proofs.text.put_ranges.Goals as goal

pub loop-range-preserved : goal.loop-range-preserved
loop-range-preserved g c = λ told.
    let ranges = c.args.ranges.now in
    let i = c.loop-range.range-index in
    let front = kind_lines (codes "range") (map range_text (take i ranges)) in
    one_more (g.T.TextOut.written c.args.text.now) front (line (codes "  range " ++ range_text c.range-item.result)) _
    (c.loop-range.invariant told) (c.in_ok-put_range.ensures.ok told)
    (ap (λ r. front ++ line (codes "  range " ++ range_text r)) c.range-item.is
    ∙ lines_push (codes "range") range_text ranges i c.range-item.result c.loop-range-test.true)
