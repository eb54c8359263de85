use Rattle.std.proofs.Common.{Some, inl, inr, option_map, subst}
use Rattle.std.proofs.lemmas.Result.{IfErr-weaker, IfOk-weaker}
use Rattle.inputs.specs.Lists.{HasText}
use Rattle.inputs.specs.Refusal.{no_line}
use Rattle.inputs.specs.Way.Part.{part_bytes}
use Rattle.inputs.proofs.lines.take_line.Goals as goal
use Rattle.inputs.proofs.lines.take_line.Goals.{In-Ok-Some}
use Rattle.inputs.proofs.lines.take_line.Given as given

has_text : (g : given.Over) (c : In-Ok-Some g) →
    HasText (part_bytes c.args.line) (Some c.in-Ok-Some.text.now)
has_text g c =
    subst (HasText (part_bytes c.args.line))
    (λ i. option_map (λ text. text.now) (c.in-Ok-Some.field-0-is i)) c.in-Ok-Some.ensures.ok

pub returns-in-Ok-Some-clause-ok : goal.returns-in-Ok-Some-clause-ok
returns-in-Ok-Some-clause-ok g c =
    let has = has_text g (goal.at.returns-in-Ok-Some-clause-ok g c).In-Ok-Some in
    IfOk-weaker c.take.result _ _ (λ new t. (Some c.in-Ok-Some.text.now, has, t))
    c.take.ensures.ok

pub returns-in-Ok-Some-clause-refused : goal.returns-in-Ok-Some-clause-refused
returns-in-Ok-Some-clause-refused g c =
    let has = has_text g (goal.at.returns-in-Ok-Some-clause-refused g c).In-Ok-Some in
    IfErr-weaker c.take.result _ _ (λ fault r. inr (record {
      text = c.in-Ok-Some.text.now;
      has = has;
      refused = r;
    }))
    c.take.ensures.refused

pub returns-in-Err-clause-refused : goal.returns-in-Err-clause-refused
returns-in-Err-clause-refused g c = inl (no_line c.in-Err.ensures.refused)
