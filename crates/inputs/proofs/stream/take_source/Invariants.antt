use Rattle.std.proofs.Common.{◌≡◌, ◌-◌, ◌≤◌, false}
use Rattle.inputs.specs.Lists.{input_limit}
use Rattle.inputs.proofs.StreamLemmas.{ReadSoFar}
use Rattle.inputs.proofs.stream.take_source.Given as goal

-- the lines read so far are taken; each call gave a byte, and none has failed
abbrev pub invariant-pieces : goal.invariant-pieces
invariant-pieces g l = record {
  same : l.taker ≡ l.fn.taker;
  read : ReadSoFar (g.T.Taker.takes l.fn.taker) (g.S.Source.left l.fn.source)
      (g.S.Source.left l.source) l.count l.fn.taken l.so_far.number l.so_far.held.items
      l.so_far.taken;
  ended : l.so_far.number ≤ l.count;
  room : l.count ≤ input_limit;
  calls : (g.S.Source.device l.source).calls ≤ l.count;
  ready : (g.S.Source.device l.source).failed ≡ false;
}

abbrev pub decreases-pieces : goal.decreases-pieces
decreases-pieces g l = input_limit - l.count
