use Rattle.pep_c.proofs.EachText.{answered_more, none_answered}
use Rattle.pep_c.proofs.questions.answers_on.Goals as goal

pub loop-rest-init : goal.loop-rest-init
loop-rest-init c = none_answered _ _ _ c.new-answers.ensures.items

pub loop-rest-preserved : goal.loop-rest-preserved
loop-rest-preserved c =
    answered_more _ _ _ _ _ c.first_part.result.0.now c.in_ok-answer.answer
    (rw (c.in-Some.is, c.first_part.ensures.parts) at c.loop-rest.invariant) c.in_ok-answer.ensures
    c.in_ok-push.ensures.items
