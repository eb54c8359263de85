use Rattle.std.specs.Prelude.{option_map}
use Rattle.std.proofs.Common.{drop}
use Rattle.pep_clause.proofs.IncreasingRanges.{SoFar}
use Rattle.pep_clause.proofs.set.are_increasing.Given as goal

-- the ranges before the rest are increasing, and end at this cut
abbrev pub invariant-loop-range : goal.invariant-loop-range
invariant-loop-range l = SoFar l.ranges (option_map (λ c. c.now) l.end) (drop l.range-index l.ranges)
