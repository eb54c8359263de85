use Rattle.std.proofs.Common.{◌≡◌, drop}
use Rattle.pep_version.specs.Order.{release_cmp}
use Rattle.pep_version.proofs.order.release_order.Given as goal

abbrev pub invariant-numbers : goal.invariant-numbers
invariant-numbers l =
    release_cmp (drop l.i l.release) (drop l.i l.other) ≡ release_cmp l.release l.other
