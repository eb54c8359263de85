use Rattle.pep_c.specs.Within.{by_first, by_second}
use Rattle.pep_c.proofs.CallLemmas.{handed}
use Rattle.pep_c.proofs.within.compared.Goals as goal

pub returns-in_err-clauses-clause-refused : goal.returns-in_err-clauses-clause-refused
returns-in_err-clauses-clause-refused c = handed _ _ c.from_residual.ensures.1 by_first c.in_err-clauses.ensures.refused

pub returns-in_err-others-clause-refused : goal.returns-in_err-others-clause-refused
returns-in_err-others-clause-refused c =
    handed _ _ c.from_residual-in_err-others.ensures.1 (by_second _ c.in_ok-clauses.ensures.clauses)
    c.in_err-others.ensures.refused
