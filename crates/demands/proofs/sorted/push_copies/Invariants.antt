use Rattle.std.proofs.Common.{◌≡◌, ◌++◌, map, take}
use Rattle.demands.proofs.sorted.push_copies.Given as goal

abbrev pub invariant-loop-value : goal.invariant-loop-value
invariant-loop-value g l = map g.T.Kept.text l.items.items
    ≡ map g.T.Kept.text l.initial.items.items ++ map g.T.Kept.text (take l.value-index l.values)
