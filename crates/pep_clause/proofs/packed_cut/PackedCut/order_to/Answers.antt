use Rattle.std.proofs.Common.{◌∙◌}
use Rattle.pep_clause.specs.Cut.{cut_cmp}
use Rattle.pep_clause.proofs.PackedRead.{words-order}
use Rattle.pep_clause.proofs.packed_cut.PackedCut.order_to.Goals as goal

pub returns-clause-order : goal.returns-clause-order
returns-clause-order c =
    c.cmp.ensures ∙ words-order _ _ c.word.ensures.packed c.word-2.ensures.packed
    ∙ (λ i. cut_cmp (c.word.ensures.cut i) (c.word-2.ensures.cut i))
