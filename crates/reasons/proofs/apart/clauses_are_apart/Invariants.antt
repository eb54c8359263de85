use Rattle.std.proofs.Common.{ℕ, ◌<◌, get_or}
use Rattle.specifiers.specs.Clause.{Clause}
use Rattle.reasons.specs.Way.Apart.{IsClauseApart}
use Rattle.reasons.proofs.apart.clauses_are_apart.Given as goal

abbrev pub invariant-loop-clause : goal.invariant-loop-clause
invariant-loop-clause l = (k : ℕ) (d : Clause) → k < l.clause-index →
    IsClauseApart (get_or l.clauses k d) l.points l.own
