use Rattle.std.proofs.Common.{rules}
use Rattle.specifiers.proofs.clause.Clause.text.Goals as goal

pub returns-clause-text : goal.returns-clause-text
returns-clause-text c = search rules
