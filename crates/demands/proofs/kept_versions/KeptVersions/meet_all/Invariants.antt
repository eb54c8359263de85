use Rattle.std.proofs.Common.{◌≡◌, ◌++◌, List}
use Rattle.pep_clause.specs.VersionSet.{IsNormal, Range}
use Rattle.demands.specs.Join.{IsIntersection}
use Rattle.demands.specs.Way.PartialJoins.{joined_sets}
use Rattle.demands.proofs.kept_versions.KeptVersions.meet_all.Given as goal

-- what comes of the sets that are left, comes of all of them
abbrev pub invariant-loop-versions : goal.invariant-loop-versions
invariant-loop-versions l =
    IsNormal l.self
    × ((moved : List (List Range)) × (l.initial.sets.items ≡ l.sets.items ++ moved))
    × ((d : List Range) → IsIntersection l.self (joined_sets l.sets.items) d
    → IsIntersection l.initial.self (joined_sets l.initial.sets.items) d)

abbrev pub decreases-loop-versions : goal.decreases-loop-versions
decreases-loop-versions l = goal.left-loop-versions l
