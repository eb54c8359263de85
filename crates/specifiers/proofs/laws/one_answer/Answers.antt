use Rattle.specifiers.proofs.OneAnswer.{one-answer}
use Rattle.specifiers.proofs.laws.one_answer.Goals as goal

pub returns : goal.returns
returns c = one-answer
