use Rattle.std.proofs.Common.{◌∙◌, map, sym}
use Rattle.reasons.specs.Claims.{Claimed}
use Rattle.reasons.specs.View.{placed_parts}
use denote.Enum.Bare.{same_false, same_true}
use Rattle.demands.specs.contracts.verdict.Verdict.{the_type}
use Rattle.reasons.proofs.ClashSteps.{told_by}
use Rattle.reasons.proofs.WeighedDemands.{weighed_verdict}
use Rattle.reasons.proofs.clash.Trial.is_enough.Goals as goal

pub returns : goal.returns
returns c = λ qs among h.
    told_by c.args.self.now.name.now c.args.self.now.verdict c.in-Ok.verdict
    (map placed_parts c.args.self.now.claims.now) qs c.eq.result among c.requires.verdict
    (weighed_verdict (Claimed qs c.args.self.now.name.now) c.args.entry.now c.in-Ok.verdict
    c.versions.ensures.valid h c.in-Ok.ensures.entry)
    (λ same. same_true the_type tt _ _ (sym c.eq.ensures ∙ same)) (λ same. same_false the_type _ _ (sym c.eq.ensures ∙ same))
