use Rattle.pep_c.specs.Inputs.{by_input}
use Rattle.pep_c.proofs.CallLemmas.{handed}
use Rattle.pep_c.proofs.why.told_all.Goals as goal

pub returns-in_err-found-clause-refused : goal.returns-in_err-found-clause-refused
returns-in_err-found-clause-refused c =
    handed _ _ c.from_residual-in_err-found.ensures.1 (by_input _ c.in_ok-environment.ensures.ok)
    c.in_err-found.ensures.refused
