use Rattle.pep_c.proofs.CallLemmas.{answers, tells}
use Rattle.pep_c.proofs.judging.tubrambutan_judge.Goals as goal

pub returns-clause-judged : goal.returns-clause-judged
returns-clause-judged c = answers _ c.judged.ensures.judged c.give_answer.ensures.answer c.give_answer.ensures.nothing

pub returns-clause-refused : goal.returns-clause-refused
returns-clause-refused c = λ e.
    tells c.judged.result _ _ _ _ c.judged.ensures.refused (c.give_answer.ensures.refused e)
