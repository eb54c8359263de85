use Rattle.std.proofs.Common.{◌≡◌, ◌<◌, None, Some, ap, arith, length, subst, sym}
use Rattle.std.proofs.lemmas.List.{nil_from_length}
use Rattle.pep_c.specs.Parts.{AsksGroup, a_group, no_group}
use Rattle.pep_c.proofs.parts.group_of.Goals as goal

pub returns-then-is_empty-clause-group : goal.returns-then-is_empty-clause-group
returns-then-is_empty-clause-group c =
    let none : length c.args.text.now ≡ 0 = grind arith in
    subst (λ t. AsksGroup c.args.kind t None) (sym (nil_from_length c.args.text.now none)) no_group

pub returns-in-Ok-clause-group : goal.returns-in-Ok-clause-group
returns-in-Ok-clause-group c =
    let some : 0 < length c.args.text.now = grind arith in
    subst (λ k. AsksGroup k c.args.text.now (Some c.in-Ok.name)) (sym c.in-Project.is)
    (a_group (λ e. absurd (omega (arith, ap length e, some))) c.in-Ok.ensures.name)
