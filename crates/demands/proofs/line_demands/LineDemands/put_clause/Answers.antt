use Rattle.std.proofs.Common.{◌≡◌, ◌∙◌, None, Some, ap, option_map, subst, sym}
use Rattle.std.proofs.lemmas.Result.{IfOk-weaker}
use Rattle.specifiers.specs.Clause.{demanded_text}
use Rattle.demands.specs.Way.LineDemands.{AddsClause, DemandsRanges}
use Rattle.demands.proofs.LineSets.{found_ranges}
use Rattle.demands.proofs.TakenClauses.{demanded_is}
use Rattle.demands.proofs.line_demands.LineDemands.put_clause.Goals as goal
use Rattle.demands.proofs.line_demands.LineDemands.put_clause.Goals.{In-Ok}

-- the versions are those that the clause demands
demanded : (c : In-Ok) → DemandsRanges c.args.clause.now c.in-Ok.versions
demanded c =
    let none : demanded_text c.args.clause.now ≡ None =
    sym c.exact_text.ensures ∙ ap (option_map (λ t. t.now)) c.in_default.is in
    record { valid = c.op.ensures.valid; no_text = none; versions = c.in-Ok.ensures.list }

pub returns-in-Some-clause-added : goal.returns-in-Some-clause-added
returns-in-Some-clause-added c =
    let text : demanded_text c.args.clause.now ≡ Some c.in-Some.text.now =
    sym c.exact_text.ensures ∙ ap (option_map (λ t. t.now)) c.in-Some.is in
    subst (λ clause. AddsClause clause c.args.self.now c.put_text.new.self)
    (sym (demanded_is c.args.clause.now c.in-Some.text.now text)) c.in_ok-put_text.ensures

pub returns-in-Ok-clause-added : goal.returns-in-Ok-clause-added
returns-in-Ok-clause-added c =
    IfOk-weaker c.admit.result _ _ (λ _ h. h c.args.clause.now (demanded (goal.at.returns-in-Ok-clause-added c).In-Ok))
    c.admit.ensures.added

pub returns-in-Ok-clause-found : goal.returns-in-Ok-clause-found
returns-in-Ok-clause-found c =
    IfOk-weaker c.admit.result _ _ (λ found. found_ranges c.args.clause.now c.in-Ok.versions found
    (demanded (goal.at.returns-in-Ok-clause-found c).In-Ok)) c.admit.ensures.found
