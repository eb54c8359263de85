use Rattle.std.proofs.Common.{map, take}
use Rattle.reasons.specs.Way.Asked.{asked_parts}
use Rattle.reasons.proofs.ClosedPackages.{ClosedSoFar}
use Rattle.reasons.proofs.telling.closed_packages.Given as goal

-- the packages of the entries up to this one are found
abbrev pub invariant-loop-entry : goal.invariant-loop-entry
invariant-loop-entry l =
    ClosedSoFar l.table (take l.entry-index l.entries) (map asked_parts l.asked.items)
