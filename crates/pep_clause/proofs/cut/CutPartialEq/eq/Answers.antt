use Rattle.std.proofs.Common.{rules}
use Rattle.pep_clause.proofs.cut.CutPartialEq.eq.Goals as goal

pub returns-clause-one : goal.returns-clause-one
returns-clause-one c = search rules

pub returns-clause-same : goal.returns-clause-same
returns-clause-same c = search rules

pub returns-clause-test : goal.returns-clause-test
returns-clause-test c = search rules
