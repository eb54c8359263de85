use Rattle.std.specs.Prelude.{Ok}
use Rattle.std.proofs.lemmas.Result.{err_from_is_err_and}
use Rattle.pep_tool.proofs.Refusals.{merges_input, reading_refused}
use Rattle.pep_tool.proofs.program.reply.merge_input.Goals as goal

pub returns-clause-merged : goal.returns-clause-merged
returns-clause-merged g c =
    merges_input (λ x. x) (Ok c.in_ok-printout_of.field-0) _ _ c.in_ok-environment.environment
    c.in_ok-gathering.gathering c.in_ok-environment.ensures
    c.in_ok-gathering.ensures.reads.table c.in_ok-printout_of.ensures

pub returns-in_err-gathering-clause-refused : goal.returns-in_err-gathering-clause-refused
returns-in_err-gathering-clause-refused g c =
    let exit = c.from_residual-in_err-gathering in
    let p = err_from_is_err_and exit.result exit.ensures.1 in
    rw (p.1, p.2) (reading_refused _ _ _ _ _ c.in_ok-environment.ensures
    c.in_err-gathering.ensures.reads.refused)
