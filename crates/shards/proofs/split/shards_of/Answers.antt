use Rattle.std.proofs.Common.{◌+◌, arith, length}
use Rattle.texts.specs.Way.Split.{left_parts}
use Rattle.inputs.proofs.Pieces.{room_left}
use Rattle.inputs.specs.Lists.{lines_of}
use Rattle.shards.proofs.SplitLines.{all_split, refused_or_none, split_more}
use Rattle.shards.proofs.split.shards_of.Goals as goal

pub loop-rest-preserved : goal.loop-rest-preserved
loop-rest-preserved c =
    let bytes = c.args.bytes.now in
    let number = c.loop-rest.number in
    let after = c.first_part.result.1 in
    record {
      lines = split_more c.args.count (lines_of bytes) number c.first_part.result.0.now (left_parts 10 after)
          c.loop-rest.shards.items _ _
          (rw (c.in-Some.is, c.first_part.ensures.parts) at c.loop-rest.invariant.lines)
          c.in-Ok.ensures.shard c.in_ok-push-in-Ok.ensures.items;
      room = room_left number (number + 1) (length bytes + 1) c.loop-rest.rest after c.in-Some.left
          c.loop-rest.invariant.room c.in-Some.is c.first_part.ensures.shorter (omega arith);
    }

pub returns-clause-shards : goal.returns-clause-shards
returns-clause-shards c =
    all_split c.args.count c.loop-rest.number c.args.bytes.now c.loop-rest.shards.items
    (rw c.in_default.is at c.loop-rest.invariant.lines)

pub returns-in-Err-clause-refused : goal.returns-in-Err-clause-refused
returns-in-Err-clause-refused c =
    refused_or_none c.args.count c.loop-rest.number c.args.bytes.now c.first_part.result.0.now
    (left_parts 10 c.first_part.result.1) c.loop-rest.shards.items c.in-Err.fault c.of.result _
    (rw (c.in-Some.is, c.first_part.ensures.parts) at c.loop-rest.invariant.lines)
    c.in-Err.ensures.refused c.on_line.ensures.memory c.on_line.ensures.line c.of.ensures.cause
    c.of.ensures.memory c.of.ensures.place
