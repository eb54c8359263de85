use Rattle.std.proofs.Common.{true, subst, sym}
use Rattle.demands.specs.Table.{IsTable, TableDemands}
use Rattle.inputs.specs.Gathered.{Gathered}
use Rattle.inputs.specs.Origins.{inputs}
use Rattle.pep_c.specs.Inputs.{by_input}
use Rattle.pep_c.specs.Questions.{AnswersQuestion}
use Rattle.pep_c.proofs.CallLemmas.{handed}
use Rattle.pep_c.proofs.EachText.{in_other_words}
use Rattle.pep_c.proofs.QuestionLemmas.{says_the_same}
use Rattle.pep_c.proofs.questions.answers_each.Goals as goal

pub returns-in_err-gathering-clause-refused : goal.returns-in_err-gathering-clause-refused
returns-in_err-gathering-clause-refused c =
    handed _ _ c.from_residual-in_err-gathering.ensures.1 (by_input _ c.in_ok-environment.ensures.ok)
    c.in_err-gathering.ensures.refused

pub returns-in-Ok-answers_on-clause-answers : goal.returns-in-Ok-answers_on-clause-answers
returns-in-Ok-answers_on-clause-answers c =
    let e = c.in_ok-environment.environment in
    let given = c.args.inputs.now in
    let is_table = subst (IsTable (Gathered e given)) (sym c.in-Ok.ensures.same) c.in_ok-gathering.ensures.table in
    record {
      parts = e;
      has_environment = c.in_ok-environment.ensures.ok;
      accepted = c.in_ok-gathering.ensures.accepted;
      each = in_other_words (AnswersQuestion (TableDemands c.in-Ok.table)) (AnswersQuestion (Gathered e given)) _ _
          (λ q n h. says_the_same (TableDemands c.in-Ok.table) (Gathered e given) q n
          (λ name v a is said. c.gathered_answers.ensures.answers e (inputs given) c.in-Ok.table name v true a is_table is said) h)
          c.in-Ok-answers_on.ensures;
    }
