use Rattle.std.proofs.Common.{◌≡◌, inl, inr, rules, subst}
use Rattle.pep_require.proofs.Exits.{further, handed_on}
use Rattle.pep_table.proofs.ToldLines.{halts_so, judged_stops}
use Rattle.pep_table.specs.TableText.{Shows}
use Rattle.pep_table.proofs.read.read_judged.Goals as goal

pub returns-in_err-entry-clause-refused : goal.returns-in_err-entry-clause-refused
returns-in_err-entry-clause-refused c =
    handed_on _ c.from_residual.result _ c.from_residual.ensures.1
    (further inl c.in_err-entry.ensures.refused)

pub returns-then-ne-clause-refused : goal.returns-then-ne-clause-refused
returns-then-ne-clause-refused c =
    let right = c.in_ok-map_err.field-0 in
    let shows : Shows c.in_ok-entry.entry right = search rules in
    let other : ¬ (right ≡ c.args.verdict) = search rules in
    inr (inr (
      c.in_ok-entry.entry,
      c.in_ok-entry.behind.now,
      right,
      c.in_ok-entry.ensures.ok,
      shows,
      other,
    ))

pub returns-clause-ok : goal.returns-clause-ok
returns-clause-ok c =
    let shows : Shows c.in_ok-entry.entry c.in_ok-map_err.field-0 = search rules in
    let same : c.in_ok-map_err.field-0 ≡ c.args.verdict = search rules in
    (c.in_ok-entry.ensures.ok, subst (Shows c.in_ok-entry.entry) same shows)

pub returns-in_err-entry-clause-stops : goal.returns-in_err-entry-clause-stops
returns-in_err-entry-clause-stops c =
    handed_on _ c.from_residual.result _ c.from_residual.ensures.1
    (halts_so _ _ (λ left h. inr h) c.in_err-entry.field-0.0 c.in_err-entry.ensures.stops)

pub returns-then-ne-clause-stops : goal.returns-then-ne-clause-stops
returns-then-ne-clause-stops c =
    halts_so _ _ (judged_stops c.args.text.now c.args.parts.now c.in_ok-entry.behind.now
    c.in_ok-entry.entry c.in_ok-entry.ensures.ok) c.wrong_verdict.result c.wrong_verdict.ensures
