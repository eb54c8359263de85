use Rattle.std.proofs.Common.{Err, ap}
use Rattle.pep_tool.proofs.Refusals.{refused_name}
use Rattle.pep_tool.proofs.program.reply.read_name.Goals as goal

pub returns-in-Err-clause-refused : goal.returns-in-Err-clause-refused
returns-in-Err-clause-refused c =
    let told = c.in-Err.ensures in
    rw c.of_argument.ensures (refused_name c.args.text.now _
    (λ bad. told.refused.0 (ap Err bad)) told.faults)
