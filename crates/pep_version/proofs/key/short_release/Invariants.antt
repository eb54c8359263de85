use Rattle.std.proofs.Common.{◌≡◌, ◌≤◌, length}
use Rattle.pep_version.specs.Order.{short_release}
use Rattle.pep_version.proofs.key.short_release.Given as goal

abbrev pub invariant-loop-rest : goal.invariant-loop-rest
invariant-loop-rest l =
    (short_release l.rest ≡ short_release l.release) × (length l.rest ≤ length l.release)

abbrev pub decreases-loop-rest : goal.decreases-loop-rest
decreases-loop-rest l = length l.rest
