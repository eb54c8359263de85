use Rattle.std.proofs.Common.{◌≡◌, List, length}
use denote.Text.{Utf8}
use denote.Shadow.{shadow}
use Rattle.specifiers.specs.Clause.{Clause}
use Rattle.pep_require.proofs.BoundLoops.{SoFar}
use Rattle.pep_require.specs.Way.Sink.{AddsClauses}
use Rattle.pep_require.proofs.clauses.walk_clauses.Given as goal

-- the clauses that are done stand in front, and the sink took them
abbrev pub invariant-loop-rest : goal.invariant-loop-rest
invariant-loop-rest g l =
    shadow (Utf8 l.left) × (l.sink ≡ l.fn.sink) × ((done : List Clause) × SoFar l.fn.closed l.fn.text done l.left
    × AddsClauses (g.S.LineSink.holds l.fn.sink l.fn.line) (g.S.LineSink.holds l.fn.sink l.line) done)

abbrev pub decreases-loop-rest : goal.decreases-loop-rest
decreases-loop-rest g l = length l.left
