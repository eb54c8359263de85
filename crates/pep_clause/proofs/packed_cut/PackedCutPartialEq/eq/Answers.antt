use Rattle.std.proofs.Common.{◌∙◌}
use Rattle.std.specs.Ordering.{eq_by_cmp}
use Rattle.pep_clause.specs.Cut.{cut_cmp}
use Rattle.pep_clause.proofs.PackedRead.{words-same}
use Rattle.pep_clause.proofs.packed_cut.PackedCutPartialEq.eq.Goals as goal

pub returns-clause-test : goal.returns-clause-test
returns-clause-test c =
    words-same _ _ c.word.ensures.packed c.word-2.ensures.packed
    ∙ (λ i. eq_by_cmp cut_cmp (c.word.ensures.cut i) (c.word-2.ensures.cut i))
