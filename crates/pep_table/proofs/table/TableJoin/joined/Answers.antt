use Rattle.std.proofs.Common.{rules}
use Rattle.pep_table.proofs.table.TableJoin.joined.Goals as goal

pub returns-clause-joins : goal.returns-clause-joins
returns-clause-joins c = search rules
