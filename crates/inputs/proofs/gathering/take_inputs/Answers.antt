use Rattle.std.proofs.Common.{◌∙◌, [], ap, arith, subst}
use Rattle.inputs.specs.Way.GatheredLines.{GathersBytes, RefusesAsInput}
use Rattle.inputs.specs.Way.Wanted.{wanted_name}
use Rattle.inputs.proofs.GatheredLists.{input_blamed_in, input_taken}
use Rattle.inputs.proofs.gathering.take_inputs.Goals as goal

pub returns-in-Err-clause-refused : goal.returns-in-Err-clause-refused
returns-in-Err-clause-refused c =
    input_blamed_in c.args.environment.now c.args.inputs.now c.loop-input.input-index
    c.loop-input.number c.input-item.result c.in-Err.cause c.of.result
    c.loop-input-test.true c.input-item.is c.loop-input.invariant.1
    (subst (λ e. RefusesAsInput e c.input-item.result.kind c.input-item.result.group
    c.input-item.result.bytes.items c.in-Err.cause)
    c.loop-input.invariant.2 c.in-Err.ensures.refused)
    c.of.ensures.cause c.of.ensures.memory c.of.ensures.place

pub loop-input-preserved : goal.loop-input-preserved
loop-input-preserved c =
    let e = c.args.environment.now in
    let k = c.input-item.result.kind in
    let group = c.input-item.result.group in
    let bytes = c.input-item.result.bytes.items in
    let old = c.loop-input.gathering in
    let new = c.in-Ok.new in (
      input_taken e (wanted_name c.args.wanted) c.args.inputs.now c.loop-input.input-index
          c.input-item.result [] old new c.loop-input-test.true c.input-item.is
          c.loop-input.invariant.0
          (subst (λ w. GathersBytes e w k group bytes old new) c.loop-input.invariant.3
          (subst (λ f. GathersBytes f (wanted_name c.loop-input.taker.wanted) k group bytes old new)
          c.loop-input.invariant.2 c.in-Ok.ensures.ok)),
      omega (arith, c.loop-input.invariant.1),
      ap (λ taker. taker.sink) c.in-Ok.ensures.same ∙ c.loop-input.invariant.2,
      ap (λ taker. wanted_name taker.wanted) c.in-Ok.ensures.same ∙ c.loop-input.invariant.3,
    )
