use Rattle.std.proofs.Common.{rules, sym, ◌∙◌}
use Rattle.reasons.proofs.PointOrder.{all_below}
use Rattle.reasons.proofs.apart.are_below.Goals as goal

pub returns-in-Some : goal.returns-in-Some
returns-in-Some c = λ yes.
    let item = c.in-Some.ensures.item in
    all_below c.args.points.now c.args.cut.now c.in-Some.last.now c.requires.rising
    (search rules) (search rules) (sym c.lt.ensures ∙ yes)
