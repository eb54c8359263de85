use Rattle.pep_c.proofs.RefusedLines.{refused_requirement}
use Rattle.pep_c.proofs.requirements.requirement_of.Goals as goal

pub returns-in-Err-clause-refused : goal.returns-in-Err-clause-refused
returns-in-Err-clause-refused c =
    rw c.refused_line.ensures (refused_requirement c.args.text.now c.utf8.text c.in-Err.fault c.in-Err.ensures.refused)
