use Rattle.std.proofs.Common.{◌≡◌, ◌++◌, drop, map, string_bytes}
use Rattle.specifiers.specs.Clause.{clause_text}
use Rattle.pep_c.specs.Fields.{fields}
use Rattle.pep_c.proofs.fields.push_clauses.Given as goal

abbrev pub invariant-loop-clause : goal.invariant-loop-clause
invariant-loop-clause l =
    string_bytes l.text ++ fields l.word (map clause_text (drop l.clause-index l.clauses))
    ≡ string_bytes l.initial.text ++ fields l.word (map clause_text l.clauses)
