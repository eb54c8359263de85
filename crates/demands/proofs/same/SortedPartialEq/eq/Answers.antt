use Rattle.demands.proofs.SameLemmas.{sorted-texts, texts-exactly}
use Rattle.demands.proofs.same.SortedPartialEq.eq.Goals as goal

pub returns-clause-texts : goal.returns-clause-texts
returns-clause-texts g c =
    sorted-texts g.T.PartialEq.eq g.T.Ord.cmp g.T.Kept.text g.met.T.Ord.matches_eq
    g.met.T.Kept.order c.items.result.now c.items-2.result.now c.args.self.now c.args.other.now
    c.eq.result c.eq.ensures c.items.ensures.texts c.items-2.ensures.texts

pub returns-clause-exactly : goal.returns-clause-exactly
returns-clause-exactly g c =
    texts-exactly c.args.self.now c.args.other.now c.eq.result (returns-clause-texts g c)
