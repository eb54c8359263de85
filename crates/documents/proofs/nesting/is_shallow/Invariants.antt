use Rattle.std.proofs.Common.{◌≡◌, length}
use Rattle.documents.specs.declared.nesting.Context.TheVariants.{Bare}
use Rattle.documents.specs.Nesting.{stays_shallow, no_levels}
use Rattle.documents.specs.LevelViews.{levels_of}
use Rattle.documents.proofs.nesting.is_shallow.Given as goal

-- the answer is that of the bytes that are left, behind those before them
abbrev pub invariant-loop-first : goal.invariant-loop-first
invariant-loop-first l = stays_shallow Bare no_levels l.fn.bytes ≡ stays_shallow l.context (levels_of l.count) l.rest

abbrev pub decreases-loop-first : goal.decreases-loop-first
decreases-loop-first l = length l.rest
