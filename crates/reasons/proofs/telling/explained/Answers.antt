use Rattle.std.proofs.Common.{map}
use Rattle.std.proofs.lemmas.Result.{IfOk-weaker}
use Rattle.reasons.specs.Way.Asked.{asked_parts}
use Rattle.reasons.specs.View.{reason_parts}
use Rattle.reasons.proofs.FoundReasons.{all_explained, orders_gained, verdicts_gained}
use Rattle.reasons.proofs.telling.explained.Goals as goal

pub reasons_of-requires-clause-order : goal.reasons_of-requires-clause-order
reasons_of-requires-clause-order c =
    orders_gained c.args.environment.now c.args.inputs.now c.requires.accepted
    (map asked_parts c.args.asked.items) (map asked_parts c.in_ok-asked.asked.items)
    c.requires.bare c.in_ok-asked.ensures

pub reasons_of-requires-clause-verdicts : goal.reasons_of-requires-clause-verdicts
reasons_of-requires-clause-verdicts c =
    verdicts_gained c.args.environment.now c.args.inputs.now c.requires.accepted
    (map asked_parts c.args.asked.items) (map asked_parts c.in_ok-asked.asked.items)
    c.requires.bare c.requires.verdicts c.in_ok-asked.ensures

pub returns : goal.returns
returns c =
    IfOk-weaker c.reasons_of.result _ _ (λ reasons h.
    all_explained c.args.environment.now c.args.inputs.now c.requires.accepted
    (map asked_parts c.args.asked.items) (map asked_parts c.in_ok-asked.asked.items)
    (map reason_parts reasons.items) c.requires.bare c.requires.verdicts
    c.in_ok-asked.ensures h) c.reasons_of.ensures
