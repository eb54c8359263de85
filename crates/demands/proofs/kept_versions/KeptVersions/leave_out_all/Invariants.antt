use Rattle.std.proofs.Common.{map, take}
use Rattle.demands.specs.Join.{IsIntersection}
use Rattle.demands.specs.Way.LineSets.{left_by}
use Rattle.demands.specs.Way.PartialJoins.{joined_sets}
use Rattle.demands.proofs.kept_versions.KeptVersions.leave_out_all.Given as goal

abbrev pub invariant-loop-range : goal.invariant-loop-range
invariant-loop-range l =
    IsIntersection l.initial.self (joined_sets (map left_by (take l.range-index l.left_out))) l.self
