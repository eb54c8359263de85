use Rattle.std.proofs.Common.{◌≡◌, map, take}
use Rattle.demands.proofs.sorted.Sorted.of_texts.Given as goal

abbrev pub invariant-loop-i : goal.invariant-loop-i
invariant-loop-i g l = map g.T.Kept.text l.items.items ≡ take l.i l.texts
