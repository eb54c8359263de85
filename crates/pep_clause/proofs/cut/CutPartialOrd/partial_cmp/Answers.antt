use Rattle.std.proofs.Common.{rules}
use Rattle.pep_clause.proofs.cut.CutPartialOrd.partial_cmp.Goals as goal

pub returns : goal.returns
returns c = search rules
