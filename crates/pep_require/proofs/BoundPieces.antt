-- One clause at the front of a text.
use Rattle.std.proofs.Common.{◌≡◌, ℕ, ◌==◌, Bool, true, false, List, [], ◌∷◌, ◌++◌, length, drop}
use Rattle.std.proofs.Common.{Some, Result, Ok, Err, refl, sym, ap, subst, ◌∙◌, arith, append_assoc}
use Rattle.std.specs.List.{list_all}
use Rattle.std.proofs.Math.Seq.{drop-append_seam}
use Rattle.std.proofs.lemmas.Bool.Decides.{nat_tests}
use Rattle.std.proofs.lemmas.List.Folds.{list_all-append}
use Rattle.specifiers.specs.Clause.{Clause, ClauseOf, ReadsClause, ReadsClauseAs}
use Rattle.texts.specs.Bytes.{is_clause_byte}
use Rattle.specifiers.specs.Clause.{operator_of, operator_text}
use Rattle.specifiers.specs.declared.fault.ClauseFault.{ClauseFault}
use Rattle.specifiers.specs.declared.op.Op.{Op}
use Rattle.specifiers.specs.declared.op.Op.TheVariants as op
use Rattle.specifiers.proofs.OneAnswer.{answer_ok, no-clause-of-nothing, one-answer, one-clause-of}
use Rattle.specifiers.proofs.OperatorLemmas.{operator_shape}
use Rattle.specifiers.proofs.Written.{clause-ink, ink-trimmed, is_ink, operator-found, operator-ink}
use Rattle.specifiers.proofs.Written.{written-of}
use Rattle.texts.proofs.Connectives.{and_first}
use Rattle.pep_version.proofs.NormalTexts.{list_all-weaker}
use Rattle.texts.specs.Runs.{begins, without_leading_blanks}
use Rattle.texts.specs.Bytes.{is_blank_byte}
use Rattle.texts.proofs.RunLemmas.{all-run, rest-span, run-span}
use Rattle.specifiers.specs.Front.{ClauseFrom, RefusesFound, RefusesRun, RunFrom, after_operator, after_run, clause_run}
use Rattle.pep_require.specs.LineParts.{RefusesBound, is_bare_byte}
use Rattle.pep_require.specs.Reads.{IsBound}
use Rattle.pep_require.specs.declared.fault.RequireFault.{RequireFault}
use Rattle.pep_require.proofs.BlankLemmas.{leading, leading_blank, leading_whole, run_whole}
use Rattle.pep_require.proofs.BlankLemmas.{stripped_behind, stripped_twice}

-- ---- classes of bytes

pub clause_no_blank : (b : ℕ) → is_clause_byte b ≡ true → is_blank_byte b ≡ false
clause_no_blank b h = grind (arith, nat_tests)

pub blank_no_clause : (b : ℕ) → is_blank_byte b ≡ true → is_clause_byte b ≡ false
blank_no_clause b h = grind (arith, nat_tests)

pub clause_no_equal : (b : ℕ) → is_clause_byte b ≡ true → (61 == b) ≡ false
clause_no_equal b h = grind (arith, nat_tests)

pub blank_no_equal : (b : ℕ) → is_blank_byte b ≡ true → (61 == b) ≡ false
blank_no_equal b h = grind (arith, nat_tests)

-- ---- a run of a clause

pub some_run : (o : Op) (run : List ℕ) (c : Clause) → ClauseOf o run (Ok c) → run ≡ [] → ⊥
some_run o run c s e = no-clause-of-nothing o c (subst (λ (x : List ℕ). ClauseOf o x (Ok c)) e s)

pub begins_run : (p : ℕ → Bool) → ((b : ℕ) → is_clause_byte b ≡ true → p b ≡ false) →
    (run rest : List ℕ) → (run ≡ [] → ⊥) → list_all is_clause_byte run ≡ true →
    begins p (run ++ rest) ≡ false
begins_run p off [] rest some h = absurd (some refl)
begins_run p off (b ∷ run) rest some h =
    off b (and_first (is_clause_byte b) (list_all is_clause_byte run) h)

pub begins_after : (p : ℕ → Bool) → ((b : ℕ) → is_blank_byte b ≡ true → p b ≡ false) →
    (space rest : List ℕ) → list_all is_blank_byte space ≡ true → begins p rest ≡ false →
    begins p (space ++ rest) ≡ false
begins_after p off [] rest h g = g
begins_after p off (b ∷ space) rest h g =
    off b (and_first (is_blank_byte b) (list_all is_blank_byte space) h)

-- an operator is found where no `=` follows it
pub found_operator : (o : Op) (tail : List ℕ) → begins (λ b. 61 == b) tail ≡ false →
    operator_of (operator_text o ++ tail) ≡ Some o
found_operator op.Equal [] h = refl
found_operator op.Equal (b ∷ tail) h = rw h refl
found_operator op.Less [] h = refl
found_operator op.Less (b ∷ tail) h = rw h refl
found_operator op.More [] h = refl
found_operator op.More (b ∷ tail) h = rw h refl
found_operator _ tail h = refl

-- what a clause with its operator says, the run behind the operator says
run_says : (o : Op) (run : List ℕ) (c : Clause) → list_all is_clause_byte run ≡ true →
    ReadsClause (operator_text o ++ run) (Ok c) → ClauseOf o run (Ok c)
run_says o run c bytes h =
    let x = operator_text o ++ run in
    let ink : list_all is_ink x ≡ true =
    rw (list_all-append is_ink (operator_text o) run, operator-ink o)
    (list_all-weaker is_clause_byte is_ink clause-ink run bytes) in
    let same : ReadsClauseAs (operator_of x) x (Ok c) =
    subst (λ t. ReadsClauseAs (operator_of t) t (Ok c)) (ink-trimmed x ink) h in
    let found : ReadsClauseAs (Some o) x (Ok c) =
    subst (λ r. ReadsClauseAs r x (Ok c)) (operator-found o run bytes) same in
    subst (λ t. ClauseOf o t (Ok c)) (drop-append_seam (operator_text o) run) found

-- ---- what is in the grammar is found

bare_operator : (o : Op) (tail : List ℕ) → begins is_bare_byte (operator_text o ++ tail) ≡ true
bare_operator op.Exact tail = refl
bare_operator _ tail = refl

no_blank_operator : (o : Op) (tail : List ℕ) →
    begins is_blank_byte (operator_text o ++ tail) ≡ false
no_blank_operator op.Exact tail = refl
no_blank_operator _ tail = refl

-- what stands behind the white space in front of a clause
abbrev from_operator : {piece : List ℕ} {c : Clause} → IsBound piece c → List ℕ → List ℕ
from_operator s rest = operator_text s.operator ++ (s.between ++ (s.run ++ (s.after ++ rest)))

to_right : (a b d e f rest : List ℕ) →
    (a ++ b ++ d ++ e ++ f) ++ rest ≡ a ++ (b ++ (d ++ (e ++ (f ++ rest))))
to_right a b d e f rest =
    append_assoc (a ++ b ++ d ++ e) f rest ∙ append_assoc (a ++ b ++ d) e (f ++ rest)
    ∙ append_assoc (a ++ b) d (e ++ (f ++ rest)) ∙ append_assoc a b (d ++ (e ++ (f ++ rest)))

bound_at : (piece rest : List ℕ) (c : Clause) (s : IsBound piece c) →
    without_leading_blanks (piece ++ rest) ≡ from_operator s rest
bound_at piece rest c s =
    ap (λ x. without_leading_blanks (x ++ rest)) s.whole
    ∙ ap without_leading_blanks
    (to_right s.before (operator_text s.operator) s.between s.run s.after rest)
    ∙ rest-span is_blank_byte s.before (from_operator s rest) s.blanks.0
    (no_blank_operator s.operator _)

-- a clause begins with its operator
pub bound_begins : (piece rest : List ℕ) (c : Clause) → IsBound piece c →
    begins is_bare_byte (without_leading_blanks (piece ++ rest)) ≡ true
bound_begins piece rest c s =
    ap (begins is_bare_byte) (bound_at piece rest c s) ∙ bare_operator s.operator _

-- the text has no clause byte behind white space
abbrev pub NoMore : List ℕ → Type 0
NoMore rest = begins is_clause_byte (without_leading_blanks rest) ≡ false

no_more : (after rest : List ℕ) → list_all is_blank_byte after ≡ true → NoMore rest →
    begins is_clause_byte (after ++ rest) ≡ false
no_more after rest h e =
    begins_after is_clause_byte blank_no_clause after rest h
    (ap (begins is_clause_byte) (leading_whole rest)
    ∙ begins_after is_clause_byte blank_no_clause (leading rest) (without_leading_blanks rest)
    (leading_blank rest) e)

-- what is found of the pieces of a clause
record Cuts (x : List ℕ) (o : Op) (run rest : List ℕ) : Type 0 where
  operator : operator_of x ≡ Some o
  bytes : clause_run (after_operator o x) ≡ run
  left : after_run (after_operator o x) ≡ rest

cut_behind : (run after rest : List ℕ) → list_all is_clause_byte run ≡ true →
    list_all is_blank_byte after ≡ true → NoMore rest →
    (clause_run (run ++ (after ++ rest)) ≡ run)
    × (after_run (run ++ (after ++ rest)) ≡ without_leading_blanks rest)
cut_behind run after rest b r e =
    let y = run ++ (after ++ rest) in
    let found : clause_run y ≡ run =
    run-span is_clause_byte run (after ++ rest) b (no_more after rest r e) in
    let left : drop (length (clause_run y)) y ≡ after ++ rest =
    ap (λ (l : List ℕ). drop (length l) y) found ∙ drop-append_seam run (after ++ rest) in
    (found, ap without_leading_blanks left ∙ stripped_behind after rest r)

cut_pieces : (o : Op) (between run after rest : List ℕ) (c : Clause) → ClauseOf o run (Ok c) →
    list_all is_clause_byte run ≡ true → list_all is_blank_byte between ≡ true →
    list_all is_blank_byte after ≡ true → NoMore rest →
    Cuts (operator_text o ++ (between ++ (run ++ (after ++ rest)))) o run
    (without_leading_blanks rest)
cut_pieces o between run after rest c s b h r e =
    let tail = between ++ (run ++ (after ++ rest)) in
    let apart : begins (λ b. 61 == b) tail ≡ false =
    begins_after (λ b. 61 == b) blank_no_equal between (run ++ (after ++ rest)) h
    (begins_run (λ b. 61 == b) clause_no_equal run (after ++ rest) (some_run o run c s) b) in
    let gone : without_leading_blanks tail ≡ run ++ (after ++ rest) =
    rest-span is_blank_byte between (run ++ (after ++ rest)) h
    (begins_run is_blank_byte clause_no_blank run (after ++ rest) (some_run o run c s) b) in
    let behind : after_operator o (operator_text o ++ tail) ≡ run ++ (after ++ rest) =
    ap without_leading_blanks (drop-append_seam (operator_text o) tail) ∙ gone in
    let found = cut_behind run after rest b r e in
    record {
      operator = found_operator o tail apart;
      bytes = ap clause_run behind ∙ found.0;
      left = ap after_run behind ∙ found.1;
    }

pub bound_found : (piece rest : List ℕ) (c : Clause) → IsBound piece c → NoMore rest →
    ClauseFrom (piece ++ rest) c (without_leading_blanks rest)
bound_found piece rest c s e =
    let x = piece ++ rest in
    let says = run_says s.operator s.run c s.bytes s.clause in
    let end = without_leading_blanks rest in
    let cut : Cuts (without_leading_blanks x) s.operator s.run end =
    subst (λ t. Cuts t s.operator s.run end) (sym (bound_at piece rest c s))
    (cut_pieces s.operator s.between s.run s.after rest c says s.bytes s.blanks.1 s.blanks.2 e) in
    record {
      operator = s.operator;
      front = record { found = cut.operator; left = refl };
      run = record { clause = subst (λ t. ClauseOf s.operator t (Ok c)) (sym cut.bytes) says; left = sym cut.left };
    }

-- ---- what is found is in the grammar

-- the clause that is found, with the white space at both ends
abbrev pub found_piece : (x : List ℕ) (c : Clause) (rest : List ℕ) → ClauseFrom x c rest → List ℕ
found_piece x c rest h =
    let tail = drop (length (operator_text h.operator)) (without_leading_blanks x) in
    let y = without_leading_blanks tail in
    leading x ++ operator_text h.operator ++ leading tail ++ clause_run y
    ++ leading (drop (length (clause_run y)) y)

pub bound_whole : (x : List ℕ) (c : Clause) (rest : List ℕ) (h : ClauseFrom x c rest) →
    x ≡ found_piece x c rest h ++ rest
bound_whole x c rest h =
    let o = h.operator in
    let tail = drop (length (operator_text o)) (without_leading_blanks x) in
    let y = without_leading_blanks tail in
    let z = drop (length (clause_run y)) y in
    let last : z ≡ leading z ++ rest = leading_whole z ∙ ap (λ t. leading z ++ t) (sym h.run.left) in
    let run : y ≡ clause_run y ++ (leading z ++ rest) =
    run_whole is_clause_byte y ∙ ap (λ t. clause_run y ++ t) last in
    let behind : tail ≡ leading tail ++ (clause_run y ++ (leading z ++ rest)) =
    leading_whole tail ∙ ap (λ t. leading tail ++ t) run in
    leading_whole x ∙ ap (λ t. leading x ++ t)
    (operator_shape (without_leading_blanks x) o h.front.found ∙ ap (λ t. operator_text o ++ t) behind)
    ∙ sym (to_right (leading x) (operator_text o) (leading tail) (clause_run y) (leading z) rest)

pub bound_read : (x : List ℕ) (c : Clause) (rest : List ℕ) (h : ClauseFrom x c rest) →
    IsBound (found_piece x c rest h) c
bound_read x c rest h =
    let tail = drop (length (operator_text h.operator)) (without_leading_blanks x) in
    let y = without_leading_blanks tail in
    let z = drop (length (clause_run y)) y in
    record {
      before = leading x;
      operator = h.operator;
      between = leading tail;
      run = clause_run y;
      after = leading z;
      whole = refl;
      blanks = (leading_blank x, leading_blank tail, leading_blank z);
      bytes = all-run is_clause_byte y;
      clause = written-of h.operator (clause_run y) c (all-run is_clause_byte y) h.run.clause;
    }

-- ---- at most one

pub one_bound : (x rest remaining : List ℕ) (c d : Clause) → ClauseFrom x c rest →
    ClauseFrom x d remaining → (c ≡ d) × (rest ≡ remaining)
one_bound x rest remaining c d h g =
    let y = without_leading_blanks x in
    let same : h.operator ≡ g.operator = cc (h.front.found, g.front.found) in
    let own = subst (λ o. ClauseOf o (clause_run (after_operator o y)) (Ok c)) same h.run.clause in (
      one-clause-of g.operator (clause_run (after_operator g.operator y)) c d own g.run.clause,
      h.run.left ∙ ap (λ o. after_run (after_operator o y)) same ∙ sym g.run.left,
    )

abbrev pub answer_err : ClauseFault → Result Clause ClauseFault
answer_err e = Err e

apart : (c : Clause) (e : ClauseFault) → answer_ok c ≡ answer_err e → ⊥
apart c e h = cc h

pub err_told : (e f : ClauseFault) → answer_err e ≡ answer_err f → e ≡ f
err_told e f h = cc h

pub bound_refused : (x rest : List ℕ) (c : Clause) (f : RequireFault) → RefusesBound x f →
    ClauseFrom x c rest → ⊥
bound_refused x rest c f h g =
    let y = without_leading_blanks x in
    let r : RefusesRun g.operator (after_operator g.operator y) h.inner =
    subst (λ o. RefusesFound o y h.inner) g.front.found h.refused in
    apart c h.inner
    (one-answer g.operator (clause_run (after_operator g.operator y)) (Ok c) (Err h.inner) g.run.clause
    r.clause (λ q. cc q) (λ q. r.known (err_told h.inner _ q)))

-- ---- white space in front says nothing

same_bound : (x y rest : List ℕ) (c : Clause) →
    without_leading_blanks x ≡ without_leading_blanks y → ClauseFrom x c rest → ClauseFrom y c rest
same_bound x y rest c same h =
    let o = h.operator in
    record {
      operator = o;
      front = record { found = subst (λ t. operator_of t ≡ Some o) same h.front.found; left = refl };
      run = subst (λ t. RunFrom o (after_operator o t) c rest) same h.run;
    }

pub bound_stripped : (x rest : List ℕ) (c : Clause) → ClauseFrom (without_leading_blanks x) c rest →
    ClauseFrom x c rest
bound_stripped x rest c h = same_bound (without_leading_blanks x) x rest c (stripped_twice x) h

pub bound_to_strip : (x rest : List ℕ) (c : Clause) → ClauseFrom x c rest →
    ClauseFrom (without_leading_blanks x) c rest
bound_to_strip x rest c h =
    same_bound x (without_leading_blanks x) rest c (sym (stripped_twice x)) h
