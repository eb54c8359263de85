use Rattle.std.proofs.Common.{◌≡◌, [], ap, rules, subst, sym}
use Rattle.std.proofs.lemmas.Result.{on_ok_weaker}
use Rattle.pep_require.specs.View.{target_parts}
use Rattle.pep_require.specs.Way.Sink.{AddsClauses, AddsTarget}
use Rattle.demands.specs.Way.LineDemands.{DemandsEntry}
use Rattle.demands.proofs.line_demands.LineDemands.put_target.Goals as goal

pub returns-in-Bounds : goal.returns-in-Bounds
returns-in-Bounds c =
    on_ok_weaker c.put_clauses.result
    (λ h. subst (AddsTarget (λ r. DemandsEntry r c.args.self.now) (λ r. DemandsEntry r c.put_clauses.new.self))
    (sym (ap target_parts c.in-Bounds.is))
    (λ p bare held. subst (AddsClauses (λ r. DemandsEntry r c.args.self.now)
    (λ r. DemandsEntry r c.put_clauses.new.self)) c.as_slice.ensures.value h p [] bare held)) c.put_clauses.ensures

pub returns-in-Direct : goal.returns-in-Direct
returns-in-Direct c =
    let named : c.in-Direct.url.text ≡ c.text.result.now = search rules in
    on_ok_weaker c.put_url.result
    (λ h. subst (AddsTarget (λ r. DemandsEntry r c.args.self.now) (λ r. DemandsEntry r c.put_url.new.self))
    (sym (ap target_parts c.in-Direct.is)) (h c.in-Direct.url named)) c.put_url.ensures
