use Rattle.std.proofs.Common.{ℕ, ◌<◌, get_or}
use Rattle.std.specs.Prelude.{◌≢◌}
use Rattle.pep_clause.specs.VersionSet.{IsPoint}
use Rattle.reasons.specs.declared.apart.Point.{Point}
use Rattle.reasons.proofs.apart.has_others.Given as goal

abbrev pub invariant-loop-range : goal.invariant-loop-range
invariant-loop-range l = (k : ℕ) (d : Point) → k < l.from → (get_or l.points k d).owner ≢ l.own →
    IsPoint l.ranges (get_or l.points k d).cut
