use Rattle.std.proofs.Common.{rules}
use Rattle.pep_clause.proofs.set.VersionSet.ranges.Goals as goal

pub returns-clause-ranges : goal.returns-clause-ranges
returns-clause-ranges c = search rules
