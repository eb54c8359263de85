use Rattle.std.proofs.Common.{rules}
use Rattle.pep_clause.proofs.range_ends.less_to.Goals as goal

pub returns-else-is_pre-clause-place : goal.returns-else-is_pre-clause-place
returns-else-is_pre-clause-place c = search rules
