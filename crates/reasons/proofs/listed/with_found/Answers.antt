use Rattle.std.proofs.Common.{◌≡◌, Option, map, option_map, subst, sym}
use Rattle.pep_require.specs.View.{requirement_parts}
use Rattle.pep_require.specs.declared.requirement.Requirement.{Requirement}
use Rattle.reasons.specs.Way.Asked.{asked_parts, with_found}
use Rattle.reasons.proofs.AskedClaims.{none_found}
use Rattle.reasons.proofs.listed.with_found.Goals as goal

pub returns-in_default : goal.returns-in_default
returns-in_default c =
    let qs = map asked_parts c.args.asked.items in
    subst (λ (o : Option Requirement). qs
    ≡ map (with_found c.args.input c.args.number (option_map requirement_parts o)) qs)
    (sym c.in_default.is) (none_found c.args.input c.args.number qs)
