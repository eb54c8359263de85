use Rattle.std.proofs.Common.{rules}
use Rattle.pep_clause.proofs.range.Range.low.Goals as goal

pub returns-clause-low : goal.returns-clause-low
returns-clause-low c = search rules
