use Rattle.demands.proofs.LineSets.{nothing_kept}
use Rattle.demands.proofs.line_demands.LineDemands.new.Goals as goal

pub returns : goal.returns
returns c =
    nothing_kept c.all.result c.new.result.items c.new-2.result.items c.new-3.result c.all.ensures.low
    c.all.ensures.high c.new.ensures.items c.new-2.ensures.items c.new-3.ensures
