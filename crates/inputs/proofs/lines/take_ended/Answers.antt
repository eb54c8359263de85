use Rattle.std.proofs.Common.{◌+◌, ◌++◌}
use Rattle.inputs.specs.Way.Part.{part_bytes}
use Rattle.inputs.proofs.Pieces.{whole_ended}
use Rattle.inputs.proofs.lines.take_ended.Goals as goal

pub returns-in-Err-clause-refused : goal.returns-in-Err-clause-refused
returns-in-Err-clause-refused g c =
    whole_ended (g.T.Taker.refuses c.args.taker.now) (c.args.so_far.number + 1)
    (c.args.so_far.held.items ++ part_bytes c.args.part) c.in-Err.fault _
    (record { memory = c.on_line.ensures.memory; told = c.on_line.ensures.line })
    c.in-Err.ensures.refused
