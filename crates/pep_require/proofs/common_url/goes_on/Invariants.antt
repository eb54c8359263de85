use Rattle.std.proofs.Common.{◌≡◌, length}
use Rattle.pep_require.specs.CommonUrl.{goes_on}
use Rattle.pep_require.specs.declared.common_url.Spot.TheVariants.{Label}
use Rattle.pep_require.proofs.common_url.goes_on.Given as goal

-- the bytes that are left decide of all
abbrev pub invariant-loop-first : goal.invariant-loop-first
invariant-loop-first l = goes_on l.spot l.rest ≡ goes_on Label l.fn.bytes

abbrev pub decreases-loop-first : goal.decreases-loop-first
decreases-loop-first l = length l.rest
