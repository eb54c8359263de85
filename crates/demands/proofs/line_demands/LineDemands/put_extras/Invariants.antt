use Rattle.std.proofs.Common.{take}
use Rattle.pep_require.specs.Way.Sink.{Adds, with_named}
use Rattle.demands.specs.Way.LineDemands.{DemandsEntry}
use Rattle.demands.proofs.line_demands.LineDemands.put_extras.Given as goal

-- the extras so far are demanded besides
abbrev pub invariant-loop-name : goal.invariant-loop-name
invariant-loop-name l =
    Adds (λ r. DemandsEntry r l.initial.self) (λ r. DemandsEntry r l.self) (with_named (take l.name-index l.names))
