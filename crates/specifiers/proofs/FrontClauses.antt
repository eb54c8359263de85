-- Where a text is cut round the operator and the run of the clause in front.
use Rattle.std.proofs.Common.{◌≡◌, ℕ, ◌<◌, true, List, ◌++◌, length, length-append, take, drop}
use Rattle.std.proofs.Common.{Result, Some, sym, ap, subst, ◌∙◌, arith}
use Rattle.std.specs.List.{prefix_len}
use Rattle.std.specs.Str.{IsCharBoundary, IsUtf8}
use Rattle.std.proofs.Math.Seq.{take-append_seam}
use Rattle.std.proofs.lemmas.Bool.Decides.{nat_tests}
use Rattle.std.proofs.lemmas.Str.{IsCharBoundary-from_take}
use Rattle.texts.specs.Bytes.{is_clause_byte}
use Rattle.texts.specs.Runs.{without_leading_blanks}
use Rattle.texts.specs.Space.{trimmed}
use Rattle.texts.proofs.RunLemmas.{boundary-run}
use Rattle.texts.proofs.SpaceLemmas.{stripped_trimmed, trimmed_stripped}
use Rattle.specifiers.specs.Clause.{Clause, ClauseOf, ReadsClause, ReadsClauseAs, TargetAnswers}
use Rattle.specifiers.specs.Clause.{operator_of, operator_text}
use Rattle.specifiers.specs.Front.{OperatorFrom, after_operator}
use Rattle.specifiers.specs.declared.fault.ClauseFault.{ClauseFault}
use Rattle.specifiers.specs.declared.op.Op.{Op}
use Rattle.specifiers.proofs.OperatorLemmas.{operator_shape}

-- ---- where a text is cut

-- behind the run of a clause
pub boundary-clause : (x : List ℕ) → IsUtf8 x → IsCharBoundary x (prefix_len is_clause_byte x)
boundary-clause = boundary-run is_clause_byte small
  where
    small : (b : ℕ) → is_clause_byte b ≡ true → b < 128
    small b h = grind (arith, nat_tests)

-- behind the operator
pub boundary-operator : (x text : List ℕ) (o : Op) → IsUtf8 x → IsUtf8 text →
    operator_of x ≡ Some o → text ≡ operator_text o → IsCharBoundary x (length text)
boundary-operator x text o utf8 own found same =
    let behind = drop (length (operator_text o)) x in
    let shape : x ≡ text ++ behind =
    operator_shape x o found ∙ ap (λ t. t ++ behind) (sym same) in
    let front : take (length text) x ≡ text =
    ap (take (length text)) shape ∙ take-append_seam text behind in
    IsCharBoundary-from_take x (length text) utf8
    (rw shape (omega (arith, length-append text behind))) (subst IsUtf8 (sym front) own)

-- the clause of the operator in front of a trimmed text is the one that the text writes
pub reads_front : (text bare operand : List ℕ) (o : Op) (answer : Result Clause ClauseFault) → bare ≡ trimmed text →
    OperatorFrom bare o operand → ClauseOf o operand answer → ReadsClause text answer
reads_front text bare operand o answer same front clause =
    let x = trimmed text in
    let stripped : without_leading_blanks bare ≡ x = ap without_leading_blanks same ∙ stripped_trimmed text in
    let found : operator_of x ≡ Some o = ap operator_of (sym stripped) ∙ front.found in
    let behind = drop (length (operator_text o)) x in
    let left : operand ≡ without_leading_blanks behind = front.left ∙ ap (after_operator o) stripped in
    let says : ClauseOf o behind answer =
    subst (λ t. TargetAnswers o t answer) (ap trimmed left ∙ trimmed_stripped behind) clause in
    subst (λ r. ReadsClauseAs r x answer) (sym found) says
