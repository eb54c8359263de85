use Rattle.std.proofs.Common.{rules}
use Rattle.specifiers.proofs.FrontClauses.{reads_front}
use Rattle.specifiers.proofs.clause.Clause.read.Goals as goal

pub returns-clause-clause : goal.returns-clause-clause
returns-clause-clause c =
    reads_front c.args.text.now c.trimmed.result.now c.in_ok-operator.operand.now c.in_ok-operator.operator c.of.result
    (search rules) c.in_ok-operator.ensures.found c.of.ensures.clause
