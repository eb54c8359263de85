use Rattle.pep_table.proofs.TextFronts.{refused_lines}
use Rattle.pep_table.proofs.ToldLines.{lines_refused}
use Rattle.pep_table.proofs.read.read_text.Goals as goal

pub returns-in-Ok-clause-ok : goal.returns-in-Ok-clause-ok
returns-in-Ok-clause-ok g c =
    let (t, valid, lines, taken) = c.in-Ok.ensures.ok in
    (t, valid, c.in_ok-lines.ensures.lines.0 t lines, taken)

pub returns-in-Err-clause-refused : goal.returns-in-Err-clause-refused
returns-in-Err-clause-refused g c =
    let text = c.args.text.now in
    let lines = c.in_ok-lines.lines.now in
    refused_lines c.args.environment.now text lines c.halted.result c.in_ok-lines.ensures.lines
    (lines_refused text lines c.in-Err.halt c.halted.result c.halted.ensures.memory
    c.in-Err.ensures.refused c.in-Err.ensures.stops c.halted.ensures.line)
