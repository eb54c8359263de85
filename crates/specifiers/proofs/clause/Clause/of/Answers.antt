use Rattle.std.proofs.Common.{rules}
use Rattle.specifiers.proofs.clause.Clause.of.Goals as goal

pub returns-clause-clause : goal.returns-clause-clause
returns-clause-clause c = search rules
