use Rattle.std.proofs.Common.{rules}
use Rattle.pep_clause.proofs.range_ends.greater_from.Goals as goal

pub returns-then-is_none-2-clause-place : goal.returns-then-is_none-2-clause-place
returns-then-is_none-2-clause-place c = search rules
