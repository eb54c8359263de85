use Rattle.std.proofs.Common.{◌≡◌, take}
use Rattle.pep_clause.proofs.ranges.ranges_copied.Given as goal

abbrev pub invariant-loop-range : goal.invariant-loop-range
invariant-loop-range l = l.copy.items ≡ take l.range-index l.ranges
