use Rattle.std.proofs.Common.{Some}
use Rattle.std.proofs.lemmas.Result.{IfOk-weaker}
use Rattle.inputs.proofs.AcceptedInputs.{all_accepted_in, wanted_table}
use Rattle.inputs.proofs.gathering.gather_named.Goals as goal

pub returns-clause-accepted : goal.returns-clause-accepted
returns-clause-accepted c =
    IfOk-weaker c.take_inputs.result _ _ (λ g all.
    all_accepted_in c.args.environment.now (Some c.args.name.now) c.args.inputs.now _ g all)
    c.take_inputs.ensures.ok

pub returns-clause-table : goal.returns-clause-table
returns-clause-table c =
    IfOk-weaker c.take_inputs.result _ _ (λ g all.
    (wanted_table c.args.environment.now (Some c.args.name.now) c.args.inputs.now g all).0)
    c.take_inputs.ensures.ok
