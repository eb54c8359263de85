use Rattle.pep_tool.proofs.Refusals.{refused_version}
use Rattle.pep_tool.proofs.program.reply.read_version.Goals as goal

pub returns-in-Err-clause-refused : goal.returns-in-Err-clause-refused
returns-in-Err-clause-refused c =
    rw c.of_argument.ensures (refused_version c.args.text.now _ c.in-Err.ensures)
