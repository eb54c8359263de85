use Rattle.demands.proofs.JoinedItems.{joined_last}
use Rattle.demands.proofs.join.join_all.Goals as goal

pub loop-item-preserved : goal.loop-item-preserved
loop-item-preserved g c =
    joined_last g.J.Join.is_value g.J.Join.joins c.args.start c.loop-item.all c.in_ok-all.all
    c.loop-item.yielded c.in-Some.item c.loop-item.invariant c.in_ok-all.ensures.left
    c.in_ok-all.ensures.right c.in_ok-all.ensures.value c.in_ok-all.ensures.joins
