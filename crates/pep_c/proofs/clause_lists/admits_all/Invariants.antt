use Rattle.std.proofs.Common.{◌≡◌, drop}
use Rattle.std.specs.List.{list_all}
use Rattle.specifiers.specs.Admits.{admits}
use Rattle.pep_c.proofs.clause_lists.admits_all.Given as goal

-- what is left to ask decides
abbrev pub invariant-loop-clause : goal.invariant-loop-clause
invariant-loop-clause l =
    list_all (λ c. admits c l.version) l.clauses
    ≡ list_all (λ c. admits c l.version) (drop l.clause-index l.clauses)
