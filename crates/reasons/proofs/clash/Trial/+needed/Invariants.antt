use Rattle.std.proofs.Common.{length}
use Rattle.reasons.proofs.clash.Trial.+needed.Given as goal

abbrev pub decreases-needed : goal.decreases-needed
decreases-needed l = length l.picked.now
