use Rattle.std.proofs.Common.{map}
use Rattle.std.proofs.lemmas.Result.{IfOk-weaker}
use Rattle.reasons.specs.Way.Asked.{asked_parts}
use Rattle.reasons.specs.View.{reason_parts}
use Rattle.reasons.proofs.FoundReasons.{all_reasons, verdicts_gathered}
use Rattle.reasons.proofs.telling.closed_reasons.Goals as goal

pub explained-requires-clause-verdicts : goal.explained-requires-clause-verdicts
explained-requires-clause-verdicts c =
    verdicts_gathered c.args.environment.now c.args.inputs.now c.args.table.now
    (map asked_parts c.in_ok-asked.asked.items) c.requires.table c.in_ok-asked.ensures

pub returns : goal.returns
returns c =
    IfOk-weaker c.explained.result _ _ (λ reasons h.
    all_reasons c.args.environment.now c.args.inputs.now c.args.table.now
    (map asked_parts c.in_ok-asked.asked.items) c.requires.table c.in_ok-asked.ensures
    (map reason_parts reasons.items) c.requires.accepted h) c.explained.ensures
