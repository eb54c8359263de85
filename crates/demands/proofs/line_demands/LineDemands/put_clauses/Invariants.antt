use Rattle.std.proofs.Common.{take}
use Rattle.pep_require.specs.Way.Sink.{AddsClauses}
use Rattle.demands.specs.Way.LineDemands.{DemandsEntry}
use Rattle.demands.proofs.line_demands.LineDemands.put_clauses.Given as goal

-- the clauses so far are demanded besides
abbrev pub invariant-loop-clause : goal.invariant-loop-clause
invariant-loop-clause l =
    AddsClauses (λ r. DemandsEntry r l.initial.self) (λ r. DemandsEntry r l.self) (take l.clause-index l.clauses)
