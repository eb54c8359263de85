use Rattle.std.proofs.Common.{◌≡◌, ◌-◌, ◌≤◌, false, vec_len}
use Rattle.std.specs.Io.KnownBytes.{Consumes}
use Rattle.pep_tool.proofs.program.reading.read_all.Given as goal

-- the bytes so far are read, by at most as many calls, none has failed, and it is the same source
abbrev pub invariant-loop-place : goal.invariant-loop-place
invariant-loop-place g l = record {
  bytes : Consumes (g.S.Source.left l.initial.source) (g.S.Source.left l.source) l.bytes.items;
  bound : vec_len l.bytes ≤ 16777217;
  calls : (g.S.Source.device l.source).calls ≤ vec_len l.bytes;
  ready : (g.S.Source.device l.source).failed ≡ false;
  same : (g.S.Source.device l.source).identity ≡ (g.S.Source.device l.initial.source).identity;
}

abbrev pub decreases-loop-place : goal.decreases-loop-place
decreases-loop-place g l = 16777217 - vec_len l.bytes
