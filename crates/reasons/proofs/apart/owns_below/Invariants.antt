use Rattle.std.proofs.Common.{◌≡◌, ℕ, ◌<◌, ◌≤◌, get_or}
use Rattle.reasons.specs.declared.apart.Point.{Point}
use Rattle.reasons.proofs.apart.owns_below.Given as goal

abbrev pub invariant-loop-index : goal.invariant-loop-index
invariant-loop-index l = (k : ℕ) (d : Point) → l.from ≤ k → k < l.index →
    (get_or l.points k d).owner ≡ l.own
