-- One text behind many operators: what the clause of `==` has tells what each operator makes of the text.
use Rattle.std.proofs.Common.{◌≡◌, ◌≢◌, ℕ, Bool, true, false, List, Result, Ok, Err}
use Rattle.std.proofs.Common.{ap, refl, sym, subst, take, length, ◌-◌}
use Rattle.std.specs.List.{ends_with}
use Rattle.std.specs.Prelude.{MatchBool, codes, if◌then◌else◌, nat_eq, nat_lt}
use Rattle.pep_version.specs.Spelling.{Reads}
use Rattle.pep_version.specs.Version.{Version}
use Rattle.texts.specs.Lists.{is_empty}
use Rattle.texts.specs.Space.{trimmed}
use Rattle.specifiers.specs.declared.fault.ClauseFault.{ClauseFault}
use Rattle.specifiers.specs.declared.fault.ClauseFault.TheVariants as fault
use Rattle.specifiers.specs.declared.op.Op.{Op}
use Rattle.specifiers.specs.declared.op.Op.TheVariants as op
use Rattle.specifiers.specs.Admits.{SaysOf, says}
use Rattle.specifiers.specs.Clause.{Clause, ClauseOf, IsClauseOf, Prefix, PrefixAnswers, ReadsThen}
use Rattle.specifiers.specs.Clause.{VersionAnswers, compatible, ends_in_space, matching, matching_prefix}
use Rattle.pep_version.specs.Final.{is_final}
use Rattle.specifiers.specs.Clause.{prefix_answer, prefix_clause, prefix_of, version_answer}
use Rattle.specifiers.specs.Clause.{version_clause}
use Rattle.specifiers.specs.Operator.{operator}
use Rattle.specifiers.proofs.OneAnswer.{one-answer, one-clause-of, told-version}
use Rattle.specifiers.proofs.ReadLemmas.{target-any}

-- ---- what an answer says

ok_apart : (c : Clause) (e : ClauseFault) → Ok c ≡ Err e → ⊥
ok_apart c e h = cc h

said : (o : Op) (text : List ℕ) (v : Version) (answer : Result Clause ClauseFault) →
    ClauseOf o text answer → answer ≢ Err fault.NoMemory → SaysOf o text v (says answer v)
said o text v (Ok c) h m = (c, h, refl)
said o text v (Err e) h m =
    λ c g. ok_apart c e (one-answer o text (Ok c) (Err e) g h (ok_apart c fault.NoMemory) m)

-- ---- no clause fails for lack of memory

bounded : (t : Bool) (a : Result Clause ClauseFault) (e : ClauseFault) → a ≢ Err fault.NoMemory →
    e ≢ fault.NoMemory → (if t then a else Err e) ≢ Err fault.NoMemory
bounded true a e h g = h
bounded false a e h g = λ same. g (cc same)

made : (o : Op) (v : Version) → version_clause o v ≢ Err fault.NoMemory
made op.Equal v = λ h. cc h
made op.NotEqual v = λ h. cc h
made op.Exact v = λ h. cc h
made op.Compatible v =
    bounded (is_empty v.label) _ fault.LocalNotAllowed
    (bounded (nat_lt 1 (length v.release)) (Ok (compatible v)) fault.OneNumber (λ h. cc h)
    (λ h. cc h)) (λ h. cc h)
made o v = bounded (is_empty v.label) _ fault.LocalNotAllowed (λ h. cc h) (λ h. cc h)

made_prefix : (o : Op) (p : Prefix) → prefix_clause o p ≢ Err fault.NoMemory
made_prefix op.Equal p = λ h. cc h
made_prefix op.NotEqual p = λ h. cc h
made_prefix o p = λ h. cc h

-- ---- what is read of the text

-- the text is a version, or a release with `.*` behind it, whatever operator stands before it
data Reading (text : List ℕ) : Type 0 where
  of_version : (v : Version) → ((o : Op) → VersionAnswers o text (version_clause o v)) → Reading text
  of_prefix : (v : Version) → ((o : Op) → VersionAnswers o text (prefix_clause o (prefix_of v))) →
      Reading text

module _ (o : Op) (text : List ℕ) (c : Clause) where
  read_version : ends_with nat_eq text (codes ".*") ≡ false →
      ReadsThen text (version_answer o) (Ok c) → Reading text
  read_version e (Err f, reads, gives) = absurd (ok_apart c _ gives)
  read_version e (Ok v, reads, gives) = of_version v (λ p. rw e (Ok v, reads, refl))

  abbrev front : List ℕ
  front = take (length text - 2) text

  prefix_answers : (p : Op) (v : Version) (a : Result Clause ClauseFault) →
      ends_with nat_eq text (codes ".*") ≡ true → ends_in_space front ≡ false → Reads front (Ok v) →
      a ≡ prefix_answer p (Ok v) → VersionAnswers p text a
  prefix_answers p v a star plain reads gives =
      subst (λ b. MatchBool b (PrefixAnswers p front a) (ReadsThen text (version_answer p) a)) (sym star)
      (subst (λ b. MatchBool b (a ≡ Err fault.BadVersion) (ReadsThen front (prefix_answer p) a))
      (sym plain) (Ok v, reads, gives))

  by_final : ends_with nat_eq text (codes ".*") ≡ true → ends_in_space front ≡ false → (v : Version) →
      Reads front (Ok v) → (b : Bool) → is_final v ≡ b →
      Ok c ≡ (if b then prefix_clause o (prefix_of v) else Err fault.StarNotAllowed) → Reading text
  by_final star plain v reads true final gives =
      of_prefix v (λ p. prefix_answers p v (prefix_clause p (prefix_of v)) star plain reads
      (rw final refl))
  by_final star plain v reads false final gives = absurd (ok_apart c _ gives)

  read_prefix : ends_with nat_eq text (codes ".*") ≡ true → (b : Bool) → ends_in_space front ≡ b →
      MatchBool b (Ok c ≡ Err fault.BadVersion) (ReadsThen front (prefix_answer o) (Ok c)) →
      Reading text
  read_prefix star true space h = absurd (ok_apart c _ h)
  read_prefix star false plain (Err f, reads, gives) = absurd (ok_apart c _ gives)
  read_prefix star false plain (Ok v, reads, gives) =
      by_final star plain v reads (is_final v) refl gives

  reading : (b : Bool) → ends_with nat_eq text (codes ".*") ≡ b →
      MatchBool b (PrefixAnswers o front (Ok c)) (ReadsThen text (version_answer o) (Ok c)) →
      Reading text
  reading true star h = read_prefix star (ends_in_space front) refl h
  reading false none h = read_version none h

reading_of : (o : Op) (text : List ℕ) (c : Clause) → o ≢ op.Exact → ClauseOf o text (Ok c) →
    Reading (trimmed text)
reading_of o text c other h =
    reading o (trimmed text) c (ends_with nat_eq (trimmed text) (codes ".*")) refl
    (told-version o (trimmed text) (Ok c) other (ok_apart c fault.NoMemory) h)

-- the answer of each operator, `===` apart
answer_of : (o : Op) (text : List ℕ) (a : Result Clause ClauseFault) → o ≢ op.Exact →
    VersionAnswers o (trimmed text) a → ClauseOf o text a
answer_of o text a other h = target-any o (trimmed text) a other h

equal_differs : op.Equal ≢ op.Exact
equal_differs e = cc e

-- an operator makes a clause of no text but those of which `==` does
pub equal_too : (o : Op) (text : List ℕ) (c : Clause) → o ≢ op.Exact → ClauseOf o text (Ok c) →
    (d : Clause) × ClauseOf op.Equal text (Ok d)
equal_too o text c other h = by (reading_of o text c other h)
  where
    by : Reading (trimmed text) → (d : Clause) × ClauseOf op.Equal text (Ok d)
    by (of_version v answers) =
        (matching v, answer_of op.Equal text (Ok (matching v)) equal_differs (answers op.Equal))
    by (of_prefix v answers) = (
      matching_prefix (prefix_of v),
      answer_of op.Equal text (Ok (matching_prefix (prefix_of v))) equal_differs (answers op.Equal),
    )

-- the clause of `==` is the one of what is read
one_equal : (text : List ℕ) (c d : Clause) → IsClauseOf op.Equal text c → VersionAnswers op.Equal (trimmed text) (Ok d) →
    c ≡ d
one_equal text c d h g =
    one-clause-of op.Equal text c d h (answer_of op.Equal text (Ok d) equal_differs g)

-- a clause of `==` is one of a version or of a prefix
pub equal_operator : (text : List ℕ) (c : Clause) → IsClauseOf op.Equal text c → operator c ≡ op.Equal
equal_operator text c h = by (reading_of op.Equal text c equal_differs h)
  where
    by : Reading (trimmed text) → operator c ≡ op.Equal
    by (of_version v answers) = ap operator (one_equal text c (matching v) h (answers op.Equal))
    by (of_prefix v answers) =
        ap operator (one_equal text c (matching_prefix (prefix_of v)) h (answers op.Equal))

-- ---- what each operator says

same_version : (w u : Version) → matching w ≡ matching u → w ≡ u
same_version w u e = cc e

same_prefix : (p q : Prefix) → matching_prefix p ≡ matching_prefix q → p ≡ q
same_prefix p q e = cc e

pub version_says : (o : Op) (text : List ℕ) (w v : Version) → o ≢ op.Exact →
    IsClauseOf op.Equal text (matching w) → SaysOf o text v (says (version_clause o w) v)
version_says o text w v other h = by (reading_of op.Equal text (matching w) equal_differs h)
  where
    by : Reading (trimmed text) → SaysOf o text v (says (version_clause o w) v)
    by (of_version u answers) =
        let own : w ≡ u = same_version w u (one_equal text (matching w) (matching u) h (answers op.Equal)) in
        subst (λ x. SaysOf o text v (says (version_clause o x) v)) (sym own)
        (said o text v (version_clause o u) (answer_of o text _ other (answers o)) (made o u))
    by (of_prefix u answers) =
        absurd (apart w (prefix_of u)
        (one_equal text (matching w) (matching_prefix (prefix_of u)) h (answers op.Equal)))
      where
        apart : (w : Version) (p : Prefix) → ¬ (matching w ≡ matching_prefix p)
        apart w p e = cc e

pub prefix_says : (o : Op) (text : List ℕ) (p : Prefix) (v : Version) → o ≢ op.Exact →
    IsClauseOf op.Equal text (matching_prefix p) → SaysOf o text v (says (prefix_clause o p) v)
prefix_says o text p v other h = by (reading_of op.Equal text (matching_prefix p) equal_differs h)
  where
    by : Reading (trimmed text) → SaysOf o text v (says (prefix_clause o p) v)
    by (of_version u answers) =
        absurd (apart u p (one_equal text (matching_prefix p) (matching u) h (answers op.Equal)))
      where
        apart : (u : Version) (p : Prefix) → ¬ (matching_prefix p ≡ matching u)
        apart u p e = cc e
    by (of_prefix u answers) =
        let own : p ≡ prefix_of u =
        same_prefix p (prefix_of u) (one_equal text (matching_prefix p) (matching_prefix (prefix_of u)) h
        (answers op.Equal)) in
        subst (λ x. SaysOf o text v (says (prefix_clause o x) v)) (sym own)
        (said o text v (prefix_clause o (prefix_of u)) (answer_of o text _ other (answers o))
        (made_prefix o (prefix_of u)))
