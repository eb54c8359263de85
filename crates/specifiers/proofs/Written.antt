-- An operator with what stands behind it is read as that: no white space is to be dropped, and no
-- longer operator begins the text.
use Rattle.std.proofs.Common.{◌≡◌, ◌==◌, ℕ, Bool, true, false, not, List, [], ◌∷◌, ◌++◌, Some, Ok}
use Rattle.std.proofs.Common.{length, drop, refl, sym, ap, subst, ◌∙◌, arith}
use Rattle.std.proofs.Math.Seq.{drop-append_seam}
use Rattle.std.proofs.lemmas.Bool.Decides.{nat_tests}
use Rattle.std.proofs.lemmas.List.Folds.{list_all-append}
use Rattle.std.specs.List.{list_all}
use Rattle.texts.proofs.Connectives.{and_first, and_second, not-true}
use Rattle.texts.specs.Space.{trimmed, without_leading_space, without_trailing_space}
use Rattle.texts.specs.Bytes.{is_white_space}
use Rattle.specifiers.specs.declared.op.Op.{Op}
use Rattle.specifiers.specs.declared.op.Op.TheVariants as op
use Rattle.specifiers.specs.Clause.{Clause, ClauseOf, IsClause, IsClauseOf, ReadsClauseAs}
use Rattle.specifiers.specs.Clause.{TargetAnswers, operator_of, operator_text}
use Rattle.texts.specs.Bytes.{is_clause_byte}
use Rattle.pep_version.proofs.NormalTexts.{list_all-weaker}

abbrev pub is_ink : ℕ → Bool
is_ink b = not (is_white_space b)

pub ink-front : (xs : List ℕ) → list_all is_ink xs ≡ true → without_leading_space xs ≡ xs
ink-front [] h = refl
ink-front (x ∷ xs) h =
    rw (not-true (is_white_space x) (and_first (is_ink x) (list_all is_ink xs) h)) refl

pub ink-end : (xs : List ℕ) → list_all is_ink xs ≡ true → without_trailing_space xs ≡ xs
ink-end [] h = refl
ink-end (x ∷ xs) h =
    let more = ink-end xs (and_second (is_ink x) (list_all is_ink xs) h) in
    rw (not-true (is_white_space x) (and_first (is_ink x) (list_all is_ink xs) h))
    (ap (λ (l : List ℕ). x ∷ l) more)

pub ink-trimmed : (xs : List ℕ) → list_all is_ink xs ≡ true → trimmed xs ≡ xs
ink-trimmed xs h = ap without_trailing_space (ink-front xs h) ∙ ink-end xs h

pub clause-ink : (b : ℕ) → is_clause_byte b ≡ true → is_ink b ≡ true
clause-ink b h = grind (arith, nat_tests)

clause-not-equal : (b : ℕ) → is_clause_byte b ≡ true → (61 == b) ≡ false
clause-not-equal b h = grind (arith, nat_tests)

pub operator-ink : (o : Op) → list_all is_ink (operator_text o) ≡ true
operator-ink op.Compatible = refl
operator-ink op.Equal = refl
operator-ink op.NotEqual = refl
operator-ink op.AtMost = refl
operator-ink op.AtLeast = refl
operator-ink op.Less = refl
operator-ink op.More = refl
operator-ink op.Exact = refl

-- the operator that stands before such a text is found
pub operator-found : (o : Op) (x : List ℕ) → list_all is_clause_byte x ≡ true →
    operator_of (operator_text o ++ x) ≡ Some o
operator-found op.Compatible x h = refl
operator-found op.Equal [] h = refl
operator-found op.Equal (b ∷ x) h =
    let apart = clause-not-equal b (and_first (is_clause_byte b) (list_all is_clause_byte x) h) in
    rw apart refl
operator-found op.NotEqual x h = refl
operator-found op.AtMost x h = refl
operator-found op.AtLeast x h = refl
operator-found op.Less [] h = refl
operator-found op.Less (b ∷ x) h =
    let apart = clause-not-equal b (and_first (is_clause_byte b) (list_all is_clause_byte x) h) in
    rw apart refl
operator-found op.More [] h = refl
operator-found op.More (b ∷ x) h =
    let apart = clause-not-equal b (and_first (is_clause_byte b) (list_all is_clause_byte x) h) in
    rw apart refl
operator-found op.Exact x h = refl

-- an operator and what is read behind it
pub written : (o : Op) (x : List ℕ) (c : Clause) → list_all is_clause_byte x ≡ true →
    TargetAnswers o x (Ok c) → IsClause (operator_text o ++ x) c
written o x c bytes h =
    let ink = list_all-weaker is_clause_byte is_ink clause-ink x bytes in
    let whole : trimmed (operator_text o ++ x) ≡ operator_text o ++ x =
    ink-trimmed (operator_text o ++ x) (rw (
      list_all-append is_ink (operator_text o) x,
      operator-ink o,
    ) ink) in
    let behind : trimmed (drop (length (operator_text o)) (operator_text o ++ x)) ≡ x =
    ap trimmed (drop-append_seam (operator_text o) x) ∙ ink-trimmed x ink in
    let target : ClauseOf o (drop (length (operator_text o)) (operator_text o ++ x)) (Ok c) =
    subst (λ t. TargetAnswers o t (Ok c)) (sym behind) h in
    let found : ReadsClauseAs (operator_of (operator_text o ++ x)) (operator_text o ++ x) (Ok c) =
    subst (λ r. ReadsClauseAs r (operator_text o ++ x) (Ok c))
    (sym (operator-found o x bytes)) target in
    subst (λ t. ReadsClauseAs (operator_of t) t (Ok c)) (sym whole) found

-- the same of the text behind an operator, whatever white space it has at its ends
pub written-of : (o : Op) (x : List ℕ) (c : Clause) → list_all is_clause_byte x ≡ true →
    IsClauseOf o x c → IsClause (operator_text o ++ x) c
written-of o x c bytes h =
    written o x c bytes (subst (λ t. TargetAnswers o t (Ok c))
    (ink-trimmed x (list_all-weaker is_clause_byte is_ink clause-ink x bytes)) h)
