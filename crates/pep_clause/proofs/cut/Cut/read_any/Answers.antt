use Rattle.std.proofs.Common.{◌≡◌, ◌==◌, None, Some, ap, arith, codes, length, rules, sym, true, ◌∙◌}
use Rattle.std.proofs.lemmas.List.{length-map}
use Rattle.pep_version.specs.View.{segment_of}
use Rattle.pep_clause.proofs.CutReading.{ReadBehind, StandsBehind, after_none, end_read, none_read, past_read}
use Rattle.pep_clause.proofs.cut.Cut.read_any.Goals as goal

pub returns-then-eq-clause-read : goal.returns-then-eq-clause-read
returns-then-eq-clause-read c =
    end_read c.args.text.now c.end.result (sym c.eq.ensures ∙ c.if-eq.true) c.end.ensures

pub returns-in-Some-2-clause-read : goal.returns-in-Some-2-clause-read
returns-in-Some-2-clause-read c =
    past_read c.args.text.now c.in-Some-2.version c.in_ok-past_final.field-0 (search rules)
    (search rules) c.in_ok-past_final.ensures.kept c.in_ok-past_final.ensures.exact

pub returns-in-Some-3-clause-read : goal.returns-in-Some-3-clause-read
returns-in-Some-3-clause-read c =
    let text = c.args.text.now in
    let v = c.in-Some-3.version in
    let at : StandsBehind text (codes "after ") v = search rules in
    let read : ReadBehind text (codes "after ") (Some v) = search rules in
    let empty : (length c.label.result.now == 0) ≡ true =
    sym c.is_empty.ensures ∙ c.if-is_empty.true in
    let few : length c.label.result.now ≡ 0 = grind arith in
    let none : length v.label ≡ 0 =
    sym (ap length c.label.ensures) ∙ length-map c.label.result.now segment_of ∙ few in
    after_none text v at read none

pub returns-in-None-clause-read : goal.returns-in-None-clause-read
returns-in-None-clause-read c =
    let text = c.args.text.now in
    let no_before : ReadBehind text (codes "before ") None = search rules in
    let no_past : ReadBehind text (codes "past ") None = search rules in
    let no_after : ReadBehind text (codes "after ") None = search rules in
    none_read text no_before no_past no_after (sym c.eq.ensures ∙ c.if-eq.false)
