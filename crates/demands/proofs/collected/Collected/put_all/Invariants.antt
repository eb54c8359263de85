use Rattle.std.proofs.Common.{map, take}
use Rattle.std.specs.List.{All}
use Rattle.demands.specs.Join.{IsUnion}
use Rattle.demands.proofs.collected.Collected.put_all.Given as goal

abbrev pub invariant-loop-value : goal.invariant-loop-value
invariant-loop-value g l =
    IsUnion l.initial.self (map g.T.Kept.text (take l.value-index l.values)) l.self
    × All g.T.Kept.is_value (take l.value-index l.values)
