use Rattle.std.proofs.Common.{◌+◌, append-nil, subst}
use Rattle.inputs.specs.Way.LineReading.{TakesLine}
use Rattle.inputs.proofs.Pieces.{last_whole}
use Rattle.inputs.proofs.lines.take_last.Goals as goal

pub returns-in-Ok-clause-ok : goal.returns-in-Ok-clause-ok
returns-in-Ok-clause-ok g c =
    subst (λ l. TakesLine (g.T.Taker.takes c.args.taker.now) l c.args.so_far.taken c.in-Ok.new.taken)
    (append-nil c.args.so_far.held.items) c.in-Ok.ensures.ok

pub returns-in-Err-clause-refused : goal.returns-in-Err-clause-refused
returns-in-Err-clause-refused g c =
    last_whole (g.T.Taker.refuses c.args.taker.now) (c.args.so_far.number + 1)
    c.args.so_far.held.items c.in-Err.cause c.in-Err.ensures.refused
