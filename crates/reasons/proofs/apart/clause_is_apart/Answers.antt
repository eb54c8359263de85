use Rattle.std.proofs.Common.{List, rules, subst}
use Rattle.pep_clause.specs.VersionSet.{Range}
use Rattle.reasons.specs.Way.Apart.{HasOthers}
use Rattle.reasons.proofs.ApartClaims.{clause_apart, no_text}
use Rattle.reasons.proofs.apart.clause_is_apart.Goals as goal

pub returns : goal.returns
returns c = λ yes.
    let points = c.args.points.now in
    let set = c.in-Ok.ensures in
    clause_apart c.args.clause.now c.in-Ok.versions points c.args.own set.list set.normal
    (λ v is. set.versions v is (no_text c.args.clause.now (search rules)))
    (subst (λ (l : List Range). HasOthers l points c.args.own) c.ranges-2.ensures.ranges (c.has_others.ensures yes))
