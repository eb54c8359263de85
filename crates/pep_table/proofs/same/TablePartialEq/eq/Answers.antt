use Rattle.std.proofs.Common.{rules}
use Rattle.pep_table.proofs.SameLemmas.{table-exactly, table-versions}
use Rattle.pep_table.proofs.same.TablePartialEq.eq.Goals as goal

pub returns-clause-exactly : goal.returns-clause-exactly
returns-clause-exactly c =
    table-exactly c.args.self.now c.args.other.now c.eq.result c.entries.ensures.valid
    c.entries-2.ensures.valid (search rules)

pub returns-clause-versions : goal.returns-clause-versions
returns-clause-versions c =
    table-versions c.args.self.now c.args.other.now c.eq.result c.entries.ensures.valid
    c.entries-2.ensures.valid (search rules)
