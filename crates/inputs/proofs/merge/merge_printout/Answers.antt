use Rattle.std.specs.Prelude.{Ok, Result}
use Rattle.faults.specs.declared.fault.Fault.{Fault}
use Rattle.inputs.proofs.MergeLemmas.{merges}
use Rattle.inputs.proofs.merge.merge_printout.Goals as goal

pub returns-clause-merged : goal.returns-clause-merged
returns-clause-merged c =
    let made : Result _ Fault = Ok c.in_ok-printout_of.field-0 in
    merges (λ x. x) c.args.environment.now c.args.inputs.now c.in_ok-gathering.gathering
    made c.in_ok-gathering.ensures.accepted c.in_ok-gathering.ensures.table
    c.in_ok-gathering.ensures.points c.in_ok-printout_of.ensures
