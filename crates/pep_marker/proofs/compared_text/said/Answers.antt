use Rattle.std.proofs.Common.{subst}
use Rattle.std.specs.Option.{option_copied}
use Rattle.pep_marker.specs.Way.Value.{IsVersionOf}
use Rattle.pep_marker.proofs.MarkerTruth.{operand_says, spells_none}
use Rattle.pep_marker.proofs.compared_text.said.Goals as goal

pub returns-in-Some : goal.returns-in-Some
returns-in-Some c = λ left right spells made differs.
    operand_says c.args.op left right c.in-Some.version.now c.admits_by.result differs
    (subst (λ o. IsVersionOf left (option_copied o)) c.in-Some.is spells)
    (c.admits_by.ensures.says right made differs)

pub returns-in-None : goal.returns-in-None
returns-in-None c = λ left right none made differs.
    spells_none c.args.op left right
    (subst (λ o. IsVersionOf left (option_copied o)) c.in-None.is none)
