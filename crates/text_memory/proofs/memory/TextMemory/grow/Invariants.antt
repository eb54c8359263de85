use Rattle.std.proofs.Common.{All, Contains, length}
use Rattle.text_memory.specs.Way.Memory.{IsKept}
use Rattle.text_memory.proofs.memory.TextMemory.grow.Given as goal

-- what the new slots have was kept, and so was what is left of the old ones
abbrev pub invariant-old : goal.invariant-old
invariant-old g l = All (IsKept l.fn.self) l.self × All (Contains l.fn.self) l.old.items

abbrev pub decreases-old : goal.decreases-old
decreases-old g l = length l.old.items
