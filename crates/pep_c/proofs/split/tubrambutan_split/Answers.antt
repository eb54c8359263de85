use Rattle.pep_c.proofs.CallLemmas.{tells}
use Rattle.pep_c.proofs.split.tubrambutan_split.Goals as goal

pub returns-clause-refused : goal.returns-clause-refused
returns-clause-refused c = λ e.
    let told = c.give_numbers.ensures.refused e in
    (told.0, tells c.shards_of.result _ _ _ _ c.shards_of.ensures.refused told.1)
