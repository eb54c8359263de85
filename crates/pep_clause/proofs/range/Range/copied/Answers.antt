use Rattle.std.proofs.Common.{rules}
use Rattle.pep_clause.proofs.range.Range.copied.Goals as goal

pub invariant_of-result : goal.invariant_of-result
invariant_of-result c = search rules
