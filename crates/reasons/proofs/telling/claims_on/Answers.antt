use Rattle.std.proofs.Common.{arith, map, refl, take}
use Rattle.reasons.specs.Way.Asked.{asked_parts}
use Rattle.reasons.specs.Places.{AreClaims}
use Rattle.reasons.proofs.AskedClaims.{order_stays}
use Rattle.reasons.proofs.ClaimsOfInputs.{inputs_next, none_of_inputs}
use Rattle.reasons.proofs.telling.claims_on.Goals as goal

pub claims_in-requires : goal.claims_in-requires
claims_in-requires c =
    order_stays (AreClaims c.args.environment.now (take c.loop-input.input-index c.args.inputs.now))
    (map asked_parts c.args.asked.items) (map asked_parts c.loop-input.asked.items)
    c.loop-input.invariant.claims c.requires

pub loop-input-init : goal.loop-input-init
loop-input-init c = record {
  claims = none_of_inputs c.args.environment.now (map asked_parts c.args.asked.items);
  number = refl;
}

pub loop-input-preserved : goal.loop-input-preserved
loop-input-preserved c =
    let at = c.loop-input in
    record {
      claims = inputs_next c.args.environment.now c.args.inputs.now at.input-index at.number
          c.input-item.result (map asked_parts c.args.asked.items) (map asked_parts at.asked.items)
          (map asked_parts c.in_ok-asked.asked.items) c.loop-input-test.true c.input-item.is
          at.invariant.number at.invariant.claims c.in_ok-asked.ensures;
      number = let n = at.invariant.number in omega (arith, n);
    }
