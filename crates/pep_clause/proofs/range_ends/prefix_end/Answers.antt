use Rattle.std.proofs.Common.{rules}
use Rattle.pep_clause.proofs.range_ends.prefix_end.Goals as goal

pub returns-in-None-clause-place : goal.returns-in-None-clause-place
returns-in-None-clause-place c = search rules
