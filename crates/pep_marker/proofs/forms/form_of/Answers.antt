use Rattle.std.proofs.Common.{ℕ, ◌<◌, get_or, refl, arith}
use Rattle.texts.specs.Bytes.{is_letter_or_digit}
use Rattle.pep_marker.specs.declared.forms.TheConstants.{FORMS}
use Rattle.pep_marker.proofs.FormTable.{IsForm, form_at, has_below, table_form}
use Rattle.pep_marker.proofs.forms.form_of.Goals as goal

form : (b : ℕ) → b < 256 → IsForm b (get_or FORMS b 0)
unfolding has_below form_at is_letter_or_digit
form b lt = table_form FORMS b lt refl

pub returns-clause-letter : goal.returns-clause-letter
returns-clause-letter c = (form c.args.b (omega arith)).letter

pub returns-clause-lower : goal.returns-clause-lower
returns-clause-lower c = (form c.args.b (omega arith)).lower

pub returns-clause-separator : goal.returns-clause-separator
returns-clause-separator c = (form c.args.b (omega arith)).separator

pub returns-clause-plain : goal.returns-clause-plain
returns-clause-plain c = (form c.args.b (omega arith)).plain

pub returns-clause-name : goal.returns-clause-name
returns-clause-name c = (form c.args.b (omega arith)).name
