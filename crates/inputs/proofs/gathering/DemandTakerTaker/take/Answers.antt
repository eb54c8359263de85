use Rattle.std.proofs.Common.{ap, inl, inr, refl, subst}
use Rattle.std.proofs.lemmas.Result.{IfErr-weaker, IfOk-weaker, err_from_is_err_and}
use Rattle.inputs.specs.Way.TakenTexts.{GathersText, RefusesTextIn}
use Rattle.inputs.specs.Way.Wanted.{wanted_name}
use Rattle.inputs.specs.declared.gathering.DemandTaker.{DemandTaker}
use Rattle.inputs.proofs.gathering.DemandTakerTaker.take.Goals as goal

pub returns-clause-ok : goal.returns-clause-ok
returns-clause-ok c =
    IfOk-weaker c.take_walked.result _ _
    (λ new h. subst (λ (j : DemandTaker). GathersText j.sink (wanted_name j.wanted) c.args.text.now c.args.gathering new)
    c.self.view_is (h _ c.args.text.now c.in_ok-name.ensures.ok)) c.take_walked.ensures.ok

pub returns-clause-refused : goal.returns-clause-refused
returns-clause-refused c =
    IfErr-weaker c.take_walked.result _ _
    (λ fault h. subst (λ e. RefusesTextIn e c.args.text.now fault) (ap (λ t. t.sink) c.self.view_is)
    (h _ c.args.text.now c.in_ok-name.ensures.ok)) c.take_walked.ensures.refused

pub returns-in_err-name-clause-refused : goal.returns-in_err-name-clause-refused
returns-in_err-name-clause-refused c =
    let f = c.in_err-name.field-0.0 in
    let p = err_from_is_err_and c.from_residual.result c.from_residual.ensures.1 in
    rw (p.1, p.2) (inl (inr (f, refl, c.in_err-name.ensures.refused)))
