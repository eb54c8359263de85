use Rattle.std.proofs.Common.{Bool, Some, subst}
use Rattle.pep_require.specs.Requirement.{MarkerSays}
use Rattle.pep_require.specs.View.{requirement_parts}
use Rattle.reasons.proofs.CountedRequirements.{not_applying}
use Rattle.reasons.proofs.listed.applying.Goals as goal

pub returns-in-Ok-false : goal.returns-in-Ok-false
returns-in-Ok-false c =
    let e = c.args.environment.now in
    let r = requirement_parts c.args.requirement in
    not_applying e r (subst (λ (b : Bool). MarkerSays e r.marker (Some b)) c.in-Ok-false.field-0-test
    c.in-Ok-false.ensures.value)
