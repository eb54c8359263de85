use Rattle.std.proofs.Common.{◌+◌, refl, rules, take}
use Rattle.demands.proofs.KeptSets.{kept_next, next_taken, one_holds}
use Rattle.demands.proofs.collected.Collected.put_all.Goals as goal

pub loop-value-preserved : goal.loop-value-preserved
loop-value-preserved g c =
    let values = c.args.values.now in
    let i = c.loop-value.value-index in
    let step = next_taken values i c.value-item.result c.value-item.is (search rules) in (
      kept_next g.T.Kept.text _ _ _ (take i values) (take (i + 1) values) c.value-item.result
          (g.T.Kept.text c.value-item.result) c.loop-value.invariant.0 c.in_ok-put_value.ensures.put refl step,
      one_holds g.T.Kept.is_value (take i values) (take (i + 1) values) c.value-item.result
          c.loop-value.invariant.1 c.in_ok-put_value.ensures.value step,
    )
