use Rattle.std.proofs.Common.{rules}
use Rattle.demands.proofs.SameLemmas.{entry-exactly, entry-versions}
use Rattle.demands.proofs.same.EntryPartialEq.eq.Goals as goal

pub returns-then-eq-3-clause-exactly : goal.returns-then-eq-3-clause-exactly
returns-then-eq-3-clause-exactly c =
    entry-exactly c.args.self.now c.args.other.now c.eq-then-eq-3.result c.extras.ensures.valid
    c.extras-2.ensures.valid (search rules)

pub returns-then-eq-3-clause-versions : goal.returns-then-eq-3-clause-versions
returns-then-eq-3-clause-versions c =
    entry-versions c.args.self.now c.args.other.now c.eq-then-eq-3.result c.extras.ensures.valid
    c.extras-2.ensures.valid (search rules)

pub returns-else-eq-3-clause-exactly : goal.returns-else-eq-3-clause-exactly
returns-else-eq-3-clause-exactly c =
    entry-exactly c.args.self.now c.args.other.now c.if-eq-2.value c.extras.ensures.valid
    c.extras-2.ensures.valid (search rules)

pub returns-else-eq-3-clause-versions : goal.returns-else-eq-3-clause-versions
returns-else-eq-3-clause-versions c =
    entry-versions c.args.self.now c.args.other.now c.if-eq-2.value c.extras.ensures.valid
    c.extras-2.ensures.valid (search rules)
