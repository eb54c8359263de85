use Rattle.std.proofs.Common.{rules}
use Rattle.pep_clause.proofs.range_ends.next_number.Goals as goal

pub returns : goal.returns
returns c = search rules
