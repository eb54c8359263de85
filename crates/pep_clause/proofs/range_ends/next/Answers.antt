use Rattle.std.proofs.Common.{rules}
use Rattle.pep_clause.proofs.range_ends.next.Goals as goal

pub returns-in_default-post-clause-place : goal.returns-in_default-post-clause-place
returns-in_default-post-clause-place c = search rules
