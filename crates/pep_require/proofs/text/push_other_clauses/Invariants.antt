use Rattle.std.proofs.Common.{◌≡◌, ◌++◌, drop, map, string_bytes}
use Rattle.specifiers.specs.Clause.{clause_text}
use Rattle.pep_require.specs.RequirementText.{behind_commas}
use Rattle.pep_require.proofs.text.push_other_clauses.Given as goal

abbrev pub invariant-loop-clause : goal.invariant-loop-clause
invariant-loop-clause l =
    string_bytes l.text ++ behind_commas (map clause_text (drop l.clause-index l.clauses))
    ≡ string_bytes l.initial.text ++ behind_commas (map clause_text l.clauses)
