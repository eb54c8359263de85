use Rattle.pep_require.proofs.TextLemmas.{clauses_written}
use Rattle.pep_require.proofs.text.push_clauses.Goals as goal

pub returns : goal.returns
returns c =
    clauses_written c.args.clauses.now c.in-Some.first.now c.in-Some.rest.now _ _ _
    c.in-Some.ensures.cases.0 c.in_ok-push_clause.ensures
    c.in_ok-push_other_clauses.ensures
