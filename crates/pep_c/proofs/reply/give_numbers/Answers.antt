use Rattle.std.proofs.Common.{List, ℕ, refl, subst}
use Rattle.pep_c.specs.Room.{GoesOut}
use Rattle.pep_c.proofs.reply.give_numbers.Goals as goal

pub returns-in-Ok-clause-numbers : goal.returns-in-Ok-clause-numbers
returns-in-Ok-clause-numbers c = λ _. (
  refl,
  (
    c.in-Ok.given,
    c.in-Ok.is,
    subst (λ (x : List ℕ). GoesOut x c.put_numbers.result c.args.numbers.now c.put_numbers.new.room)
        c.as_slice.ensures.value c.put_numbers.ensures,
  ),
)
