use Rattle.std.proofs.Common.{refl}
use Rattle.pep_clause.specs.Cut.{cut_cmp}
use Rattle.pep_clause.proofs.CutOrderLemmas.{below-strictly}
use Rattle.pep_clause.proofs.laws.between_cuts.Goals as goal

pub returns : goal.returns
returns c = λ c d h g less. (below-strictly c d (cut_cmp c d) h g refl).0 less
