use Rattle.std.proofs.Common.{inl, inr}
use Rattle.pep_require.proofs.Exits.{further, handed_on}
use Rattle.pep_c.proofs.questions.asked.Goals as goal

pub returns-in_err-version-clause-refused : goal.returns-in_err-version-clause-refused
returns-in_err-version-clause-refused c =
    let exit = c.from_residual in
    handed_on _ exit.result _ exit.ensures.1
    (further (λ why. (c.in_err-version.field-0.0, inl (rw c.split_question.ensures.version at why))) c.in_err-version.ensures.refused)

pub returns-in_err-name-clause-refused : goal.returns-in_err-name-clause-refused
returns-in_err-name-clause-refused c =
    let exit = c.from_residual-in_err-name in
    handed_on _ exit.result _ exit.ensures.1
    (further (λ why. (c.in_err-name.field-0.0, inr (rw c.split_question.ensures.name at why))) c.in_err-name.ensures.refused)

pub returns-clause-asked : goal.returns-clause-asked
returns-clause-asked c = record {
  reads = rw c.split_question.ensures.version at c.in_ok-version.ensures.version;
  is_name = rw c.split_question.ensures.name at c.in_ok-name.ensures.name;
}
