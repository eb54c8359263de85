use Rattle.std.proofs.Common.{option_copied}
use Rattle.faults.specs.declared.fault.Place.TheVariants.{Input}
use Rattle.documents.specs.RefusedProject.{IsRefusedProject}
use Rattle.documents.proofs.Placed.{placed}
use Rattle.documents.proofs.project.project_of.Goals as goal

pub returns-in-Err-clause-refused : goal.returns-in-Err-clause-refused
returns-in-Err-clause-refused c =
    placed (IsRefusedProject c.args.extra.now (option_copied c.args.group) c.args.bytes.now) (Input 1) c.in-Err.cause
    c.of.result c.in-Err.ensures.refused
    c.of.ensures.cause c.of.ensures.memory c.of.ensures.place
