use Rattle.demands.proofs.LineSets.{nothing_kept}
use Rattle.demands.proofs.line_demands.LineDemands.clear.Goals as goal

pub returns : goal.returns
returns c =
    nothing_kept c.all-self-inside.result c.empty.new.list.items c.empty-2.new.list.items c.clear.new.self
    c.all-self-inside.ensures.low c.all-self-inside.ensures.high c.empty.ensures c.empty-2.ensures
    c.clear.ensures
