use Rattle.pep_c.proofs.ClauseListLemmas.{none_written, written_more}
use Rattle.pep_c.proofs.clause_lists.clauses_of.Goals as goal

pub loop-rest-init : goal.loop-rest-init
loop-rest-init c = none_written _ _ c.new-clauses.ensures.items

pub loop-rest-preserved : goal.loop-rest-preserved
loop-rest-preserved c =
    let pushed = c.in_ok-push_clause.ensures.pushed in
    written_more _ _ _ pushed.0 _ c.first_part.result.0.now
    (rw (c.in-Some.is, c.first_part.ensures.parts) at c.loop-rest.invariant) pushed.1 pushed.2
