use Rattle.pep_c.specs.Versions.{by_clause, by_version}
use Rattle.pep_c.proofs.CallLemmas.{handed}
use Rattle.pep_c.proofs.versions.admitted.Goals as goal

pub returns-in_err-clause-clause-refused : goal.returns-in_err-clause-clause-refused
returns-in_err-clause-clause-refused c = handed _ _ c.from_residual.ensures.1 by_clause c.in_err-clause.ensures.refused

pub returns-in_err-version-clause-refused : goal.returns-in_err-version-clause-refused
returns-in_err-version-clause-refused c =
    handed _ _ c.from_residual-in_err-version.ensures.1 (by_version _ c.in_ok-clause.ensures.clause)
    c.in_err-version.ensures.refused
