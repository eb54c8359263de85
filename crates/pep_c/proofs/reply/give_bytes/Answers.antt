use Rattle.std.proofs.Common.{List, ℕ, subst}
use Rattle.pep_c.specs.Room.{GoesOut}
use Rattle.pep_c.proofs.reply.give_bytes.Goals as goal

pub returns-in-Ok-clause-bytes : goal.returns-in-Ok-clause-bytes
returns-in-Ok-clause-bytes c = λ _. (
  c.in-Ok.bytes,
  c.in-Ok.is,
  subst (λ (x : List ℕ). GoesOut x c.put_bytes.result c.args.room.now c.put_bytes.new.room)
      c.as_slice.ensures.value c.put_bytes.ensures,
)
