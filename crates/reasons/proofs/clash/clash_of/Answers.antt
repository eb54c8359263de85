use Rattle.std.proofs.Common.{map, rules}
use Rattle.std.proofs.lemmas.Result.{IfOk-weaker}
use Rattle.reasons.specs.View.{placed_parts}
use Rattle.reasons.proofs.ClashSteps.{clash_found}
use Rattle.reasons.proofs.clash.clash_of.Goals as goal

pub returns : goal.returns
returns c =
    IfOk-weaker c.found.result _ _ (λ found is.
    clash_found c.args.name.now c.args.verdict (map placed_parts c.args.claims.now) found.items c.requires.order
    (search rules) is) c.found.ensures
