use Rattle.std.proofs.Common.{◌≡◌}
use Rattle.reasons.specs.Way.ClashSearch.{indices}
use Rattle.reasons.proofs.clash.indices_below.Given as goal

abbrev pub invariant-loop-index : goal.invariant-loop-index
invariant-loop-index l = l.all.items ≡ indices l.index
