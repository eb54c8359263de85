use Rattle.std.proofs.Common.{◌≡◌, drop}
use Rattle.pep_c.specs.Way.Within.{first_demanded}
use Rattle.pep_c.proofs.within.exact_text.Given as goal

-- what is left to ask decides
abbrev pub invariant-loop-clause : goal.invariant-loop-clause
invariant-loop-clause l = first_demanded l.clauses ≡ first_demanded (drop l.clause-index l.clauses)
