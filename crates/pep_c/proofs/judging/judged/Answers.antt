use Rattle.pep_c.specs.Judging.{no_truth}
use Rattle.pep_c.proofs.CallLemmas.{handed}
use Rattle.pep_c.proofs.judging.judged.Goals as goal

pub returns-in_err-truth-clause-refused : goal.returns-in_err-truth-clause-refused
returns-in_err-truth-clause-refused c =
    handed _ _ c.from_residual-in_err-truth.ensures.1 (no_truth _ c.in_ok-environment.ensures.ok)
    c.in_err-truth.ensures.refused
