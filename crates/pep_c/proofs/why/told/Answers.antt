use Rattle.std.proofs.Common.{◌∙◌, Some, ap, sym}
use Rattle.std.proofs.lemmas.Result.{IfOk-weaker}
use Rattle.reasons.specs.View.{reason_parts}
use Rattle.pep_c.specs.Inputs.{by_environment, by_input}
use Rattle.pep_c.specs.Why.{of_inputs, unnamed}
use Rattle.pep_c.proofs.CallLemmas.{handed}
use Rattle.pep_c.proofs.why.told.Goals as goal

pub returns-in_err-name-clause-refused : goal.returns-in_err-name-clause-refused
returns-in_err-name-clause-refused c = handed _ _ c.from_residual.ensures.1 unnamed c.in_err-name.ensures.refused

pub returns-in_err-environment-clause-refused : goal.returns-in_err-environment-clause-refused
returns-in_err-environment-clause-refused c =
    handed _ _ c.from_residual-in_err-environment.ensures.1
    (λ h. of_inputs _ c.in_ok-name.ensures.name (by_environment h.0 h.1)) c.in_err-environment.ensures.refused

pub returns-in_err-reason-clause-refused : goal.returns-in_err-reason-clause-refused
returns-in_err-reason-clause-refused c =
    handed _ _ c.from_residual-in_err-reason.ensures.1
    (λ h. of_inputs _ c.in_ok-name.ensures.name (by_input _ c.in_ok-environment.ensures.ok h))
    c.in_err-reason.ensures.refused

pub returns-clause-told : goal.returns-clause-told
returns-clause-told c =
    IfOk-weaker c.text.result _ _ (λ text h. record {
      parts = c.in_ok-environment.environment;
      has_environment = c.in_ok-environment.ensures.ok;
      reason = reason_parts c.in_ok-reason.reason;
      is_name = c.in_ok-name.ensures.name ∙ ap Some (sym c.in_ok-reason.ensures.name);
      is_reason = c.in_ok-reason.ensures.reason;
      is_text = h;
    }) c.text.ensures.text
