use Rattle.std.proofs.Common.{rules}
use Rattle.reasons.proofs.ApartClaims.{clause_more}
use Rattle.reasons.proofs.apart.clauses_are_apart.Goals as goal

pub loop-clause-preserved : goal.loop-clause-preserved
loop-clause-preserved c =
    let points = c.args.points.now in
    clause_more c.args.clauses.now points c.args.own c.loop-clause.clause-index c.clause-item.result
    c.loop-clause-test.true c.clause-item.is
    (c.in_ok-clause_is_apart.ensures (search rules)) c.loop-clause.invariant
