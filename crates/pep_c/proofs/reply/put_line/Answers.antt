use Rattle.std.proofs.Common.{inl, refl}
use Rattle.faults.specs.NoMemory.{no_memory}
use Rattle.pep_c.proofs.CallLemmas.{fault_line-no_memory}
use Rattle.pep_c.proofs.reply.put_line.Goals as goal

-- there is no memory for the line
pub returns : goal.returns
returns c = (no_memory, inl refl, rw fault_line-no_memory c.put-in-Err.ensures)
