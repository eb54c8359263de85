use Rattle.std.proofs.Common.{rules}
use Rattle.pep_clause.proofs.range.Range.high.Goals as goal

pub returns-clause-high : goal.returns-clause-high
returns-clause-high c = search rules
