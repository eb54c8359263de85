use Rattle.std.proofs.Common.{List, ℕ, subst}
use Rattle.pep_c.specs.Room.{GoesOut}
use Rattle.pep_c.proofs.reply.give_text.Goals as goal

pub returns-in-Ok-clause-text : goal.returns-in-Ok-clause-text
returns-in-Ok-clause-text c = λ _. (
  c.in-Ok.text,
  c.in-Ok.is,
  subst (λ (x : List ℕ). GoesOut x c.put.result c.args.room.now c.put.new.room) c.as_str.ensures.value
      c.put.ensures,
)
