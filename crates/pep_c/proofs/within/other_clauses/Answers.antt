use Rattle.pep_c.proofs.WithinLemmas.{second_refused}
use Rattle.pep_c.proofs.within.other_clauses.Goals as goal

pub returns-in-Err-clause-refused : goal.returns-in-Err-clause-refused
returns-in-Err-clause-refused c =
    second_refused c.args.bytes.now c.in-Err.fault c.of.result c.in-Err.ensures.refused
    c.of.ensures.cause c.of.ensures.memory c.of.ensures.place
