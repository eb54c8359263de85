use Rattle.pep_c.proofs.CallLemmas.{answers, tells}
use Rattle.pep_c.proofs.within.tubrambutan_within.Goals as goal

pub returns-clause-within : goal.returns-clause-within
returns-clause-within c = answers _ c.compared.ensures.within c.give_answer.ensures.answer c.give_answer.ensures.nothing

pub returns-clause-refused : goal.returns-clause-refused
returns-clause-refused c = λ e.
    tells c.compared.result _ _ _ _ c.compared.ensures.refused (c.give_answer.ensures.refused e)
