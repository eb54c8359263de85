use Rattle.std.proofs.Common.{length}
use Rattle.pep_marker.proofs.environment.Environment.+variables_in.Given as goal

-- it goes on behind the first of the variables
abbrev pub decreases-variables_in : goal.decreases-variables_in
decreases-variables_in l = length l.named.now
