use Rattle.std.proofs.Common.{◌≡◌, ◌∙◌, ◌∷◌, ap, length, rules}
use Rattle.std.proofs.lemmas.List.{nil_from_length}
use Rattle.pep_c.proofs.RangeLemmas.{of_one}
use Rattle.pep_c.proofs.ranges.+set_of.Goals as goal

pub returns-then-is_empty : goal.returns-then-is_empty
returns-then-is_empty t c =
    let none : length c.in-Some.rest.now ≡ 0 = search rules in
    of_one c.in-Some.clause.now c.args.clauses.now c.of.result
    (c.in-Some.ensures.cases.0 ∙ ap (λ cs. c.in-Some.clause.now ∷ cs) (nil_from_length c.in-Some.rest.now none))
    c.of.ensures.versions c.of.ensures.demanded c.of.ensures.normal
