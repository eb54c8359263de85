use Rattle.std.proofs.Common.{◌≡◌, Err}
use Rattle.std.proofs.lemmas.Result.{IfErr-weaker, err_from_is_err_and}
use Rattle.faults.specs.declared.fault.Place.TheVariants.{Environment}
use Rattle.documents.specs.EnvironmentFile.{environment_file}
use Rattle.pep_tool.proofs.RunFiles.{file_refuses, file_unread_refuses}
use Rattle.pep_tool.proofs.program.reading.read_environment.Goals as goal

pub returns-in_err-bytes-clause-refused : goal.returns-in_err-bytes-clause-refused
returns-in_err-bytes-clause-refused g c =
    let p = err_from_is_err_and c.from_residual.result c.from_residual.ensures.1 in
    rw (p.1, p.2) (file_unread_refuses (λ bytes cause. environment_file bytes ≡ Err cause) _ _ _
    c.args.path.now Environment _ c.in_err-bytes.ensures.refused)

pub returns-clause-refused : goal.returns-clause-refused
returns-clause-refused g c =
    IfErr-weaker c.environment_of.result _ _ (λ fault h. file_refuses
    (λ bytes cause. environment_file bytes ≡ Err cause) _ _ _ c.args.path.now Environment
    c.in_ok-bytes.bytes.items c.as_slice.result.now fault c.in_ok-bytes.ensures.bytes
    c.as_slice.ensures.value h) c.environment_of.ensures.refused
