use Rattle.pep_c.proofs.KeyLemmas.{all_taken, none_taken, taken_more}
use Rattle.pep_c.proofs.keys.keys_of.Goals as goal

pub loop-rest-init : goal.loop-rest-init
loop-rest-init c = none_taken _ _ c.new-keys.ensures.items

pub loop-rest-preserved : goal.loop-rest-preserved
loop-rest-preserved c =
    let pushed = c.in-Ok.ensures in
    taken_more _ _ _ c.first_part.result.0.now pushed.0 _
    (rw (c.in-Some.is, c.first_part.ensures.parts) at c.loop-rest.invariant) pushed.1 pushed.2

pub returns-clause-keys : goal.returns-clause-keys
returns-clause-keys c = all_taken _ _ (rw c.in_default.is at c.loop-rest.invariant)
