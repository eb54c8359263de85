use Rattle.std.proofs.Common.{◌∙◌, List, ap, subst, sym}
use Rattle.std.proofs.lemmas.Result.{IfOk-weaker}
use Rattle.specifiers.specs.Clause.{Clause}
use Rattle.pep_require.specs.View.{requirement_parts, target_parts}
use Rattle.reasons.specs.Way.Apart.{AdmitsOthers, AreClausesApart}
use Rattle.reasons.specs.View.{claim_parts}
use Rattle.reasons.specs.declared.claims.Claim.{Claim}
use Rattle.reasons.proofs.ApartClaims.{required_admits}
use Rattle.reasons.proofs.apart.admits_others.Goals as goal

pub returns-in-Bounds : goal.returns-in-Bounds
returns-in-Bounds c =
    let points = c.args.points.now in
    let own = c.args.own in
    IfOk-weaker c.clauses_are_apart.result _ _ (λ b apart yes.
    subst (λ (x : Claim). AdmitsOthers (claim_parts x) points own) (sym c.in-Required.is)
    (required_admits (requirement_parts c.in-Required.requirement) c.in-Bounds.clauses.items points own
    (sym c.target.ensures ∙ ap target_parts c.in-Bounds.is)
    (subst (λ (cs : List Clause). AreClausesApart cs points own) c.as_slice.ensures.value (apart yes))))
    c.clauses_are_apart.ensures
