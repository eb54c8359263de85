use Rattle.pep_c.proofs.RefusedLines.{refused_clause}
use Rattle.pep_c.proofs.versions.clause_of.Goals as goal

pub returns-in-Err-clause-refused : goal.returns-in-Err-clause-refused
returns-in-Err-clause-refused c =
    rw (c.refused_line.ensures, c.from.ensures)
    (refused_clause c.args.text.now c.utf8.text c.in-Err.fault c.in-Err.ensures.clause)
