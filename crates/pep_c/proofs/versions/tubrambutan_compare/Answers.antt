use Rattle.pep_c.proofs.CallLemmas.{answers, tells}
use Rattle.pep_c.proofs.versions.tubrambutan_compare.Goals as goal

pub returns-clause-order : goal.returns-clause-order
returns-clause-order c = answers _ c.order.ensures.order c.give_answer.ensures.answer c.give_answer.ensures.nothing

pub returns-clause-refused : goal.returns-clause-refused
returns-clause-refused c = λ e.
    tells c.order.result _ _ _ _ c.order.ensures.refused (c.give_answer.ensures.refused e)
