use Rattle.std.proofs.Common.{◌≡◌, ◌⊎◌, inr, subst}
use Rattle.std.proofs.lemmas.Result.{err_from_is_err_and}
use Rattle.pep_table.specs.Refused.{IsRefusedAsTable}
use Rattle.demands.specs.declared.fault.TableFault.TheVariants.{NoMemory}
use Rattle.inputs.proofs.TableFileLemmas.{file_refused, text_refused}
use Rattle.inputs.proofs.table_file.take_table.Goals as goal

pub returns-in_err-text-clause-refused : goal.returns-in_err-text-clause-refused
returns-in_err-text-clause-refused c =
    let p = err_from_is_err_and c.from_residual.result c.from_residual.ensures.1 in
    rw (p.1, p.2) (inr (file_refused c.args.environment.now c.args.bytes.now _ c.in_err-text.ensures.refused))

pub returns-in-Err-clause-refused : goal.returns-in-Err-clause-refused
returns-in-Err-clause-refused c =
    let bytes = c.args.bytes.now in
    let fault = c.in-Err.fault in
    text_refused c.args.environment.now bytes fault c.table_cause.result c.in_ok-text.ensures.size
    c.in_ok-text.ensures.encoding
    (subst (λ x. (fault ≡ NoMemory) ⊎ IsRefusedAsTable c.args.environment.now x fault) c.in_ok-text.ensures.same
    c.in-Err.ensures.refused)
    c.table_cause.ensures.line c.table_cause.ensures.environment c.table_cause.ensures.memory
