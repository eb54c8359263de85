use Rattle.std.proofs.Common.{◌≡◌, ◌==◌, take, false}
use Rattle.std.specs.List.{All}
use Rattle.pep_c.proofs.questions.split_question.Given as goal

abbrev pub invariant-bytes : goal.invariant-bytes
invariant-bytes l = All (λ b. (b == 32) ≡ false) (take l.i l.question)
