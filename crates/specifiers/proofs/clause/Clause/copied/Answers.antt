use Rattle.std.proofs.Common.{rules}
use Rattle.specifiers.proofs.clause.Clause.copied.Goals as goal

pub returns-clause-same : goal.returns-clause-same
returns-clause-same c = search rules
