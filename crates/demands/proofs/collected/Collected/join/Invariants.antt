use Rattle.std.proofs.Common.{take}
use Rattle.demands.specs.Join.{IsUnion}
use Rattle.demands.proofs.collected.Collected.join.Given as goal

abbrev pub invariant-loop-index : goal.invariant-loop-index
invariant-loop-index l = IsUnion l.initial.self (take l.index l.other-inside.texts) l.self
