use Rattle.demands.proofs.KeptSets.{sorted_once}
use Rattle.demands.proofs.sorted.put_in_order.Goals as goal

pub returns : goal.returns
returns g c =
    sorted_once g.T.PartialEq.eq g.T.Ord.cmp g.T.Kept.text g.met.T.Ord.total
    g.met.T.Ord.matches_eq g.met.T.Kept.order c.args.items.now.items
    c.sort_unstable.new.self.items c.dedup.new.self.items c.sort_unstable.ensures.permutation
    c.sort_unstable.ensures.sorted c.dedup.ensures.filtered
