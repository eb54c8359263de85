use Rattle.std.proofs.Common.{◌++◌, ◌+◌, ◌≤◌, arith, length, length-append, rules, take}
use Rattle.std.proofs.KnownBytes.{Consumes-trans}
use Rattle.inputs.specs.Lists.{input_limit}
use Rattle.pep_tool.proofs.program.reading.read_all.Goals as goal

pub returns-in-Err-clause-whole : goal.returns-in-Err-clause-whole
returns-in-Err-clause-whole c = search rules

-- a piece was read for which there is no memory
pub returns-in_err-extend_from_slice-in-Ok-clause-most :
    goal.returns-in_err-extend_from_slice-in-Ok-clause-most
returns-in_err-extend_from_slice-in-Ok-clause-most g c =
    let piece = take c.in-Ok.count c.pull.new.buf in
    let room : length c.loop-place.bytes.items + length piece ≤ input_limit + 1 = search rules in (
      c.loop-place.bytes.items ++ piece,
      Consumes-trans _ _ _ _ _ c.loop-place.invariant.bytes c.in-Ok.ensures.bytes.0,
      omega (arith, room, length-append c.loop-place.bytes.items piece),
    )
