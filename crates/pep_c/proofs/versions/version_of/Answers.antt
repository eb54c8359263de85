use Rattle.pep_c.proofs.RefusedLines.{refused_version}
use Rattle.pep_c.proofs.versions.version_of.Goals as goal

pub returns-in-Err-clause-refused : goal.returns-in-Err-clause-refused
returns-in-Err-clause-refused c =
    rw c.of_argument.ensures (refused_version c.args.text.now c.in-Err.fault c.in-Err.ensures)
