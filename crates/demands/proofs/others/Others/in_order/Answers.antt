use Rattle.std.proofs.Common.{subst}
use Rattle.demands.specs.Gathering.{bare_entry}
use Rattle.demands.specs.Way.Others.{JoinsOthers, OtherParts}
use Rattle.demands.proofs.KeptSets.{union_none}
use Rattle.demands.proofs.others.Others.in_order.Goals as goal

pub returns-clause-same : goal.returns-clause-same
returns-clause-same c =
    let i = c.self.inside in
    subst (λ (o : OtherParts). JoinsOthers o bare_entry o) c.self.view_is (record {
      extras = union_none i.extras c.in_order.ensures;
      urls = union_none i.urls c.in_order-2.ensures;
      texts = union_none i.texts c.in_order-3.ensures;
    })
