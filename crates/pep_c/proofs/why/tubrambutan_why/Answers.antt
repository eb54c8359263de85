use Rattle.std.proofs.Common.{inr}
use Rattle.pep_c.specs.Why.{RefusesReason}
use Rattle.pep_c.proofs.CallLemmas.{told_so}
use Rattle.pep_c.proofs.why.tubrambutan_why.Goals as goal

pub returns-in-Ok-clause-refused : goal.returns-in-Ok-clause-refused
returns-in-Ok-clause-refused c = λ e.
    told_so c.told.result (RefusesReason c.args.environment.now c.in-Ok.inputs.items c.args.name.now) _ _ _ _
    (rw c.as_slice.ensures.value at c.told.ensures.refused)
    (λ fault h. inr (c.in-Ok.inputs.items, c.in-Ok.ensures.inputs, h)) (c.give_text.ensures.refused e)
