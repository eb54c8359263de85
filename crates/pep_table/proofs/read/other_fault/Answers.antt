use Rattle.std.proofs.Common.{inr}
use Rattle.pep_require.proofs.Exits.{further}
use Rattle.pep_table.proofs.ToldLines.{lines_refused}
use Rattle.pep_table.proofs.read.other_fault.Goals as goal

pub returns-in-Err : goal.returns-in-Err
returns-in-Err c =
    further inr
    (lines_refused c.args.text.now c.args.lines.now c.in-Err.halt c.halted.result
    c.halted.ensures.memory c.in-Err.ensures.refused c.in-Err.ensures.stops c.halted.ensures.line)
