use Rattle.std.proofs.Common.{◌+◌, ◌∙◌, ap, map, rules, take}
use Rattle.std.proofs.lemmas.List.{map_push}
use Rattle.demands.specs.Way.LineSets.{left_by}
use Rattle.demands.proofs.KeptSets.{next_taken}
use Rattle.demands.proofs.LineSets.{meets_no_set, meets_one_set}
use Rattle.demands.proofs.kept_versions.KeptVersions.leave_out_all.Goals as goal

pub loop-range-init : goal.loop-range-init
loop-range-init c = meets_no_set c.args.self.now c.in_order.ensures

pub loop-range-preserved : goal.loop-range-preserved
loop-range-preserved c =
    let outs = c.args.left_out.now in
    let i = c.loop-range.range-index in
    let b = c.range-item.result in
    let step = next_taken outs i b c.range-item.is (search rules) in
    meets_one_set _ _ _ (left_by b) (map left_by (take i outs)) (map left_by (take (i + 1) outs))
    c.loop-range.invariant c.in_ok-leave_out.ensures (ap (map left_by) step ∙ map_push left_by (take i outs) b)
