-- The clause in front of a text, as the first of a list of clauses stands there (PEP 508, "Grammar"), and what stands behind it.
use Rattle.std.specs.Prelude.{◌≡◌, ◌≢◌, ℕ, List, drop, length, take_while, Option, Some, None, Err}
use Rattle.texts.specs.Bytes.{is_clause_byte}
use Rattle.texts.specs.Runs.{without_leading_blanks}
use Rattle.specifiers.specs.Clause.{Clause, ClauseOf, IsClauseOf, operator_of, operator_text}
use Rattle.specifiers.specs.declared.fault.ClauseFault.{ClauseFault}
use Rattle.specifiers.specs.declared.fault.ClauseFault.TheVariants as fault
use Rattle.specifiers.specs.declared.op.Op.{Op}

-- what stands behind the operator, without white space before it
abbrev pub after_operator : Op → List ℕ → List ℕ
after_operator o x = without_leading_blanks (drop (length (operator_text o)) x)

-- the longest run of characters that a clause may hold
abbrev pub clause_run : List ℕ → List ℕ
clause_run x = take_while is_clause_byte x

-- what stands behind the run, without white space before it
abbrev pub after_run : List ℕ → List ℕ
after_run x = without_leading_blanks (drop (length (clause_run x)) x)

-- the text begins with the operator, white space before and behind it, and this stands behind that
pub record OperatorFrom (x : List ℕ) (o : Op) (rest : List ℕ) : Type 0 where
  pub found : operator_of (without_leading_blanks x) ≡ Some o
  pub left : rest ≡ after_operator o (without_leading_blanks x)

-- the operator and the longest run in front of the text are the clause, and this stands behind the run
pub record RunFrom (o : Op) (x : List ℕ) (c : Clause) (rest : List ℕ) : Type 0 where
  pub clause : IsClauseOf o (clause_run x) c
  pub left : rest ≡ after_run x

-- the text begins with the clause: white space, an operator, white space, and the longest run
pub record ClauseFrom (x : List ℕ) (c : Clause) (rest : List ℕ) : Type 0 where
  pub operator : Op
  pub front : OperatorFrom x operator (after_operator operator (without_leading_blanks x))
  pub run : RunFrom operator (after_operator operator (without_leading_blanks x)) c rest

-- the run behind the operator is refused with this fault
pub record RefusesRun (o : Op) (x : List ℕ) (f : ClauseFault) : Type 0 where
  pub known : f ≢ fault.NoMemory
  pub clause : ClauseOf o (clause_run x) (Err f)

abbrev pub RefusesFound : Option Op → List ℕ → ClauseFault → Type 0
RefusesFound None x f = f ≡ fault.NoOperator
RefusesFound (Some o) x f = RefusesRun o (after_operator o x) f

-- no clause stands in front: no operator, or what the operator's run is refused for
abbrev pub RefusesFront : List ℕ → ClauseFault → Type 0
RefusesFront x f =
    RefusesFound (operator_of (without_leading_blanks x)) (without_leading_blanks x) f
