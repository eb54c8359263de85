use Rattle.std.proofs.Common.{rules}
use Rattle.pep_table.proofs.gathering.Gathering.take_applying.Goals as goal

pub returns-in-Ok-clause-taken : goal.returns-in-Ok-clause-taken
returns-in-Ok-clause-taken c = search rules

pub returns-in-Err-clause-faults : goal.returns-in-Err-clause-faults
returns-in-Err-clause-faults c = search rules
