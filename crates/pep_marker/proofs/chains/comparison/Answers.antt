use Rattle.std.proofs.Common.{arith}
use Rattle.pep_marker.proofs.ChainLoops.{comparison_here}
use Rattle.pep_marker.proofs.chains.comparison.Goals as goal

pub returns-clause-read : goal.returns-clause-read
returns-clause-read g c =
    comparison_here _ _ _ c.args.room _ _ _ c.in-Some.ensures.some
    c.in-Some-operand_at.ensures.some c.in_ok-compared.ensures
    (omega (arith, c.if-room-eq0.false))
