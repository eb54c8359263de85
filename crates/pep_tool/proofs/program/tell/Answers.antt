use Rattle.std.proofs.Common.{inr}
use Rattle.pep_tool.proofs.Refusals.{fault_line-no_memory}
use Rattle.pep_tool.proofs.program.tell.Goals as goal

pub returns : goal.returns
returns g c = inr (rw fault_line-no_memory c.tell_line-in-Err.ensures)
