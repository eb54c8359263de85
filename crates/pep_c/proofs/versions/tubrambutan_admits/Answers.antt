use Rattle.pep_c.proofs.CallLemmas.{answers, tells}
use Rattle.pep_c.proofs.versions.tubrambutan_admits.Goals as goal

pub returns-clause-admits : goal.returns-clause-admits
returns-clause-admits c = answers _ c.admitted.ensures.admitted c.give_answer.ensures.answer c.give_answer.ensures.nothing

pub returns-clause-refused : goal.returns-clause-refused
returns-clause-refused c = λ e.
    tells c.admitted.result _ _ _ _ c.admitted.ensures.refused (c.give_answer.ensures.refused e)
