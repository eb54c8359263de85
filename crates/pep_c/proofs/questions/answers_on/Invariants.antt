use Rattle.std.proofs.Common.{◌==◌}
use Rattle.std.specs.List.{slice_split}
use Rattle.demands.specs.Table.{TableDemands}
use Rattle.texts.specs.Way.Split.{left_parts}
use Rattle.pep_c.specs.Questions.{AnswersQuestion}
use Rattle.pep_c.proofs.EachText.{Answered, left_len}
use Rattle.pep_c.proofs.questions.answers_on.Given as goal

abbrev pub decreases-loop-rest : goal.decreases-loop-rest
decreases-loop-rest l = left_len l.rest

abbrev pub invariant-loop-rest : goal.invariant-loop-rest
invariant-loop-rest l = Answered (AnswersQuestion (TableDemands l.table))
    (slice_split (λ b. b == 0) l.fn.questions) (left_parts 0 l.rest) l.answers.items
