use Rattle.std.proofs.Common.{rules}
use Rattle.pep_clause.proofs.range_ends.done.Goals as goal

pub returns-in-Some-next_number-clause-place : goal.returns-in-Some-next_number-clause-place
returns-in-Some-next_number-clause-place c = search rules
