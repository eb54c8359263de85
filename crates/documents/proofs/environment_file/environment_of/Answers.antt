use Rattle.std.proofs.Common.{◌≡◌, Err}
use Rattle.faults.specs.declared.fault.Place.TheVariants.{Environment}
use Rattle.documents.specs.EnvironmentFile.{environment_file}
use Rattle.documents.proofs.Placed.{placed}
use Rattle.documents.proofs.environment_file.environment_of.Goals as goal

pub returns-in-Err-clause-refused : goal.returns-in-Err-clause-refused
returns-in-Err-clause-refused c =
    placed (λ cause. environment_file c.args.bytes.now ≡ Err cause) Environment c.in-Err.cause
    c.of.result c.in-Err.ensures.refused
    c.of.ensures.cause c.of.ensures.memory c.of.ensures.place
