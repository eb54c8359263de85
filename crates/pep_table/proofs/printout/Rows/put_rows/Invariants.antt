use Rattle.std.proofs.Common.{◌≡◌, ◌++◌, take}
use Rattle.pep_table.specs.Way.Printout.{rows_text}
use Rattle.pep_table.proofs.printout.Rows.put_rows.Given as goal

abbrev pub invariant-loop-row : goal.invariant-loop-row
invariant-loop-row g l =
    g.T.TextOut.tells → g.T.TextOut.written l.text ≡ g.T.TextOut.written l.initial.text
    ++ rows_text (take l.row-index l.rows)
