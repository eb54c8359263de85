use Rattle.std.proofs.Common.{subst}
use Rattle.demands.specs.Table.{IsValidEntry}
use Rattle.demands.proofs.LineSets.{line_valid}
use Rattle.demands.proofs.line_demands.LineDemands.as_entry.Goals as goal

pub returns : goal.returns
returns c =
    let i = c.self.inside in
    subst IsValidEntry c.self.view_is
    (line_valid i.range i.left_out.items i.sets.items i.others c.self.invariant.0 c.self.invariant.1
    c.in_order.ensures.extras c.in_order.ensures.urls c.in_order.ensures.texts)
