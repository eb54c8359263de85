use Rattle.std.proofs.Common.{◌≡◌, ◌++◌, take}
use Rattle.pep_table.specs.Way.Printout.{in_blocks, rows_text}
use Rattle.pep_table.proofs.printout.Rows.put_blocks.Given as goal

abbrev pub invariant-loop-block : goal.invariant-loop-block
invariant-loop-block g l =
    g.T.TextOut.tells → g.T.TextOut.written l.text ≡ g.T.TextOut.written l.initial.text
    ++ rows_text (in_blocks (take l.block-index l.blocks))
