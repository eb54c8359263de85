use Rattle.std.proofs.Common.{inr}
use Rattle.pep_c.specs.Inputs.{RefusesInputs}
use Rattle.pep_c.proofs.CallLemmas.{told_so}
use Rattle.pep_c.proofs.merging.tubrambutan_merge.Goals as goal

pub returns-in-Ok-clause-refused : goal.returns-in-Ok-clause-refused
returns-in-Ok-clause-refused c = λ e.
    told_so c.merged.result (RefusesInputs c.args.environment.now c.in-Ok.inputs.items) _ _ _ _
    (rw c.as_slice.ensures.value at c.merged.ensures.refused)
    (λ fault h. inr (c.in-Ok.inputs.items, c.in-Ok.ensures.inputs, h)) (c.give_text.ensures.refused e)
