use Rattle.pep_c.specs.Inputs.{IsAsked, by_environment, by_input, by_inputs, by_name, by_version}
use Rattle.pep_c.proofs.CallLemmas.{handed, kept_answer}
use Rattle.pep_c.proofs.merging.checked.Goals as goal
use Rattle.pep_c.proofs.merging.checked.Goals.{In_ok-name}

are_asked : (c : In_ok-name) →
    IsAsked c.args.name.now c.args.version.now c.in_ok-name.name c.in_ok-version.version
are_asked c = record { reads = c.in_ok-version.ensures.version; is_name = c.in_ok-name.ensures.name }

pub returns-in_err-version-clause-refused : goal.returns-in_err-version-clause-refused
returns-in_err-version-clause-refused c =
    handed _ _ c.from_residual.ensures.1 by_version c.in_err-version.ensures.refused

pub returns-in_err-name-clause-refused : goal.returns-in_err-name-clause-refused
returns-in_err-name-clause-refused c =
    handed _ _ c.from_residual-in_err-name.ensures.1 (by_name _ c.in_ok-version.ensures.version)
    c.in_err-name.ensures.refused

pub returns-in_err-environment-clause-refused : goal.returns-in_err-environment-clause-refused
returns-in_err-environment-clause-refused c =
    handed _ _ c.from_residual-in_err-environment.ensures.1
    (λ h. by_inputs _ _ (are_asked (goal.at.returns-in_err-environment-clause-refused c).In_ok-name)
    (by_environment h.0 h.1)) c.in_err-environment.ensures.refused

pub returns-in_err-answer-clause-refused : goal.returns-in_err-answer-clause-refused
returns-in_err-answer-clause-refused c =
    handed _ _ c.from_residual-in_err-answer.ensures.1
    (λ h. by_inputs _ _ (are_asked (goal.at.returns-in_err-answer-clause-refused c).In_ok-name)
    (by_input _ c.in_ok-environment.ensures.ok h)) c.in_err-answer.ensures.refused

pub returns-clause-checked : goal.returns-clause-checked
returns-clause-checked c = record {
  asked_name = c.in_ok-name.name;
  asked_version = c.in_ok-version.version;
  asked = are_asked (goal.at.returns-clause-checked c).In_ok-name;
  parts = c.in_ok-environment.environment;
  has_environment = c.in_ok-environment.ensures.ok;
  accepted = c.in_ok-answer.ensures.accepted;
  answer = c.in_ok-answer.answer;
  is_answer = c.in_ok-answer.ensures.answer;
  is_number = kept_answer c.in_ok-answer.answer _ c.answer_number.ensures;
}
