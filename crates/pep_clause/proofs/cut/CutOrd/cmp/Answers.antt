use Rattle.pep_clause.proofs.CutOrderLemmas.{above-strictly, below-strictly, not_above-within}
use Rattle.pep_clause.proofs.CutOrderLemmas.{tied-exactly, tied-under}
use Rattle.pep_clause.proofs.cut.CutOrd.cmp.Goals as goal

pub returns : goal.returns
returns c =
    let found = c.order_to.ensures in
    record {
      order = found.order;
      within = not_above-within _ _ _ found.spelled found.other_spelled found.order;
      less = below-strictly _ _ _ found.spelled found.other_spelled found.order;
      greater = above-strictly _ _ _ found.spelled found.other_spelled found.order;
      same = tied-under _ _ _ found.spelled found.other_spelled found.order;
      one = tied-exactly _ _ _ found.spelled found.other_spelled found.order;
    }
