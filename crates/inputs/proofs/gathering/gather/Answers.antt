use Rattle.std.proofs.Common.{None}
use Rattle.std.proofs.lemmas.Result.{IfOk-weaker}
use Rattle.inputs.proofs.AcceptedInputs.{all_accepted_in, gathered_table}
use Rattle.inputs.proofs.gathering.gather.Goals as goal

pub returns-clause-accepted : goal.returns-clause-accepted
returns-clause-accepted c =
    IfOk-weaker c.take_inputs.result _ _ (λ g all.
    all_accepted_in c.args.environment.now None c.args.inputs.now _ g all) c.take_inputs.ensures.ok

pub returns-clause-table : goal.returns-clause-table
returns-clause-table c =
    IfOk-weaker c.take_inputs.result _ _ (λ g all.
    (gathered_table c.args.environment.now c.args.inputs.now g all).0) c.take_inputs.ensures.ok

pub returns-clause-points : goal.returns-clause-points
returns-clause-points c =
    IfOk-weaker c.take_inputs.result _ _ (λ g all.
    (gathered_table c.args.environment.now c.args.inputs.now g all).1) c.take_inputs.ensures.ok
