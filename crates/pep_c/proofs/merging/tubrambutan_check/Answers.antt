use Rattle.std.proofs.Common.{inr}
use Rattle.pep_c.specs.Inputs.{Checks, RefusesAsked}
use Rattle.pep_c.proofs.CallLemmas.{answers, told_so}
use Rattle.pep_c.proofs.merging.tubrambutan_check.Goals as goal

pub returns-in-Ok-clause-checked : goal.returns-in-Ok-clause-checked
returns-in-Ok-clause-checked c = λ e.
    let given = c.in-Ok.inputs.items in
    let said = answers (Checks c.args.environment.now given c.args.name.now c.args.version.now c.args.want_pre)
    (rw c.as_slice-inputs.ensures.value at c.checked-answer.ensures.checked) c.give_answer.ensures.answer
    c.give_answer.ensures.nothing e in
    ((given, c.in-Ok.ensures.inputs, said.0), said.1)

pub returns-in-Ok-clause-refused : goal.returns-in-Ok-clause-refused
returns-in-Ok-clause-refused c = λ e.
    told_so c.checked-answer.result
    (RefusesAsked c.args.environment.now c.in-Ok.inputs.items c.args.name.now c.args.version.now) _ _ _ _
    (rw c.as_slice-inputs.ensures.value at c.checked-answer.ensures.refused)
    (λ fault h. inr (c.in-Ok.inputs.items, c.in-Ok.ensures.inputs, h)) (c.give_answer.ensures.refused e)
