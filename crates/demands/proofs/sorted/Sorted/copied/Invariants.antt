use Rattle.std.proofs.Common.{◌≡◌, map, take}
use Rattle.demands.proofs.sorted.Sorted.copied.Given as goal

abbrev pub invariant-loop-item : goal.invariant-loop-item
invariant-loop-item g l = map g.T.Kept.text l.items.items
    ≡ map g.T.Kept.text (take l.item-index l.item-items)
