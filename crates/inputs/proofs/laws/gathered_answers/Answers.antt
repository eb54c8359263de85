use Rattle.pep_table.proofs.TableAnswers as laws
use Rattle.inputs.specs.Origins.{OriginDemands}
use Rattle.inputs.proofs.laws.gathered_answers.Goals as goal

pub returns-clause-answers : goal.returns-clause-answers
returns-clause-answers c = λ e o. laws.answer_of_demands (OriginDemands e o)

pub returns-clause-verdicts : goal.returns-clause-verdicts
returns-clause-verdicts c = λ e o. laws.verdict_of_demands (OriginDemands e o)
