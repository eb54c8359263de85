use Rattle.std.proofs.Common.{rules}
use Rattle.demands.proofs.entry.Entry.copied.Goals as goal

pub returns-clause-same : goal.returns-clause-same
returns-clause-same c = search rules
