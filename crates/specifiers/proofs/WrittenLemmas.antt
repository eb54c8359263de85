-- A text is read as one clause, which is read back from its own text.
use Rattle.std.proofs.Common.{◌≡◌, ◌<◌, ◌&&◌, ◌==◌, ◌-◌, ℕ, Bool, true, false, not, List, [], ◌∷◌}
use Rattle.std.proofs.Common.{◌++◌, Option, Some, None, Result, Ok, Err, length, take, drop, codes}
use Rattle.std.proofs.Common.{refl, sym, ap, subst, ◌∙◌, append-nil, length-append, arith}
use Rattle.std.proofs.Math.Seq.{drop-append_seam, take-append_seam}
use Rattle.std.proofs.lemmas.Bool.Decides.{nat_tests}
use Rattle.std.proofs.lemmas.List.Folds.{list_all-append}
use Rattle.std.proofs.lemmas.List.{take-append-drop}
use Rattle.std.specs.Bool.{MatchBool}
use Rattle.std.specs.Cmp.Lexicographic.{pointwise}
use Rattle.std.specs.Char.{is_ascii_uppercase}
use Rattle.std.specs.List.{ends_with, list_all}
use Rattle.std.specs.Prelude.{if◌then◌else◌, nat_eq, nat_lt}
use Rattle.std.specs.Str.{str_to_ascii_lowercase}
use Rattle.pep_version.proofs.SpelledLaws.{spelled-version}
use Rattle.texts.proofs.Connectives.{and_first, and_second, not-true, and-false}
use Rattle.pep_version.specs.Spelling.{Reads}
use Rattle.texts.specs.Space.{trimmed}
use Rattle.pep_version.specs.Text.{is_text_byte, normal_text}
use Rattle.pep_version.specs.Version.{IsVersion, Segment, Version}
use Rattle.texts.specs.Lists.{is_empty}
use Rattle.specifiers.specs.declared.fault.ClauseFault.{ClauseFault}
use Rattle.specifiers.specs.declared.fault.ClauseFault.TheVariants as fault
use Rattle.specifiers.specs.declared.op.Op.{Op}
use Rattle.specifiers.specs.declared.op.Op.TheVariants as op
use Rattle.specifiers.specs.Operator.{of_version}
use Rattle.specifiers.specs.Clause.{Clause, IsClause, IsClauseOf, IsOperatorAndRun, Prefix, PrefixAnswers}
use Rattle.specifiers.specs.Clause.{ReadsClauseAs}
use Rattle.specifiers.specs.Clause.{ReadsThen, TargetAnswers, VersionAnswers, compatible, matching}
use Rattle.specifiers.specs.Clause.{matching_prefix, excluding, excluding_prefix, at_most, at_least}
use Rattle.specifiers.specs.Clause.{less_than, greater_than, demanded, demanded_of, clause_text}
use Rattle.specifiers.specs.Clause.{ends_in_space, fault_of, is_demanded_text}
use Rattle.texts.specs.Bytes.{is_clause_byte}
use Rattle.specifiers.specs.Clause.{operator_of, operator_text, prefix_answer}
use Rattle.pep_version.specs.Final.{is_final}
use Rattle.specifiers.specs.Clause.{prefix_clause, prefix_of, prefix_text, version_answer}
use Rattle.specifiers.specs.Clause.{version_clause}
use Rattle.specifiers.specs.Clause.{final_version}
use Rattle.specifiers.specs.Valid.{IsPrefix, IsPublic, IsValidClause}
use Rattle.specifiers.proofs.OneAnswer.{one-clause-of}
use Rattle.specifiers.proofs.Written.{clause-ink, ink-end, ink-trimmed, is_ink, written}
use Rattle.specifiers.proofs.ReadLemmas.{lower-demanded, lowered-none}
use Rattle.specifiers.proofs.FinalVersion.{IsVersion-prefix_of}
use Rattle.pep_version.proofs.NormalTexts.{list_all-weaker}

-- ---- one clause

-- two readings of a text as a version are one
pub one-clause : (text : List ℕ) (c d : Clause) → IsClause text c → IsClause text d → c ≡ d
one-clause text c d = found (operator_of (trimmed text))
  where
    found : (o : Option Op) → ReadsClauseAs o (trimmed text) (Ok c) →
        ReadsClauseAs o (trimmed text) (Ok d) → c ≡ d
    found None h k = cc h
    found (Some o) h k = one-clause-of o (drop (length (operator_text o)) (trimmed text)) c d h k

-- ---- what is read is a clause

public-answer : (c : Clause) (label : List Segment) (answer : Result Clause ClauseFault)
    → Ok c ≡ (if is_empty label then answer else Err fault.LocalNotAllowed) → (label ≡ [])
    × (Ok c ≡ answer)
public-answer c [] answer h = (refl, h)
public-answer c (s ∷ label) answer h = (cc h, cc h)

-- a clause that is made of a version without a label alone
public-valid : (v : Version) (c made : Clause) → IsVersion v →
    Ok c ≡ (if is_empty v.label then Ok made else Err fault.LocalNotAllowed)
    → (IsPublic v → IsValidClause made) → IsValidClause c
public-valid v c made is h valid =
    let both = public-answer c v.label (Ok made) h in
    let same : c ≡ made = cc (both.1) in subst IsValidClause (sym same) (valid (is, both.0))

pub version-valid : (o : Op) (v : Version) (c : Clause) → IsVersion v → Ok c ≡ version_clause o v →
    IsValidClause c
version-valid op.Equal v c is h =
    let same : c ≡ matching v = cc h in subst IsValidClause (sym same) is
version-valid op.NotEqual v c is h =
    let same : c ≡ excluding v = cc h in subst IsValidClause (sym same) is
version-valid op.Compatible v c is h =
    let both =
    public-answer c v.label _ h in numbers (nat_lt 1 (length v.release)) refl both.0 both.1
  where
    numbers : (b : Bool) → nat_lt 1 (length v.release) ≡ b → v.label ≡ [] →
        Ok c ≡ (if b then Ok (compatible v) else Err fault.OneNumber) → IsValidClause c
    numbers true more bare e =
        let same : c ≡ compatible v = cc e in subst IsValidClause (sym same) (
          (is, bare),
          two (length v.release) more,
        )
      where
        two : (n : ℕ) → nat_lt 1 n ≡ true → 1 < n
        two n t = grind (arith, nat_tests)
    numbers false more bare e = absurd (apart c e)
      where
        apart : (c : Clause) → Ok c ≡ Err fault.OneNumber → ⊥
        apart c e = cc e
version-valid op.Exact v c is h = absurd (apart c h)
  where
    apart : (c : Clause) → Ok c ≡ Err fault.BadVersion → ⊥
    apart c e = cc e
version-valid o v c is h = public-valid v c (of_version o v) is h (λ both. both)

star-apart : (c : Clause) → Ok c ≡ Err fault.StarNotAllowed → ⊥
star-apart c e = cc e

pub prefix-valid : (o : Op) (v : Version) (c : Clause) → IsVersion v →
    Ok c ≡ prefix_clause o (prefix_of v) → IsValidClause c
prefix-valid op.Equal v c is h =
    let same : c ≡ matching_prefix (prefix_of v) = cc h in
    subst IsValidClause (sym same) (IsVersion-prefix_of v is)
prefix-valid op.NotEqual v c is h =
    let same : c ≡ excluding_prefix (prefix_of v) = cc h in
    subst IsValidClause (sym same) (IsVersion-prefix_of v is)
prefix-valid o v c is h = absurd (star-apart c h)

read-valid : (o : Op) (x : List ℕ) (c : Clause) → ReadsThen x (version_answer o) (Ok c) →
    IsValidClause c
read-valid o x c (Ok v, r, e) = version-valid o v c (spelled-version x v r.0) e
read-valid o x c (Err g, r, e) = absurd (apart c (fault_of g) e)
  where
    apart : (c : Clause) (f : ClauseFault) → Ok c ≡ Err f → ⊥
    apart c f e = cc e

read-prefix-valid : (o : Op) (x : List ℕ) (c : Clause) → ReadsThen x (prefix_answer o) (Ok c) →
    IsValidClause c
read-prefix-valid o x c (Ok v, r, e) = final (is_final v) e
  where
    final : (b : Bool) → Ok c ≡ (if b then prefix_clause o (prefix_of v)
        else Err fault.StarNotAllowed) → IsValidClause c
    final true h = prefix-valid o v c (spelled-version x v r.0) h
    final false h = absurd (star-apart c h)
read-prefix-valid o x c (Err g, r, e) = absurd (apart c (fault_of g) e)
  where
    apart : (c : Clause) (f : ClauseFault) → Ok c ≡ Err f → ⊥
    apart c f e = cc e

bad-apart : (c : Clause) → Ok c ≡ Err fault.BadVersion → ⊥
bad-apart c e = cc e

answers-valid : (o : Op) (x : List ℕ) (c : Clause) → VersionAnswers o x (Ok c) → IsValidClause c
answers-valid o x c = outer (ends_with nat_eq x (codes ".*"))
  where
    inner : (b : Bool) → MatchBool b (Ok c ≡ Err fault.BadVersion)
        (ReadsThen (take (length x - 2) x) (prefix_answer o) (Ok c)) → IsValidClause c
    inner true h = absurd (bad-apart c h)
    inner false h = read-prefix-valid o (take (length x - 2) x) c h

    outer : (b : Bool) → MatchBool b (PrefixAnswers o (take (length x - 2) x) (Ok c))
        (ReadsThen x (version_answer o) (Ok c)) → IsValidClause c
    outer true h = inner (ends_in_space (take (length x - 2) x)) h
    outer false h = read-valid o x c h

demanded-valid : (x : List ℕ) (c : Clause) → Ok c ≡ demanded_of x → IsValidClause c
demanded-valid x c h = tested (not (is_empty x) && list_all is_clause_byte x) refl h
  where
    tested : (b : Bool) → (not (is_empty x) && list_all is_clause_byte x) ≡ b →
        Ok c ≡ (if b then Ok (demanded (str_to_ascii_lowercase x)) else Err fault.BadVersion) →
        IsValidClause c
    tested true t e =
        let same : c ≡ demanded (str_to_ascii_lowercase x) = cc e in
        subst IsValidClause (sym same) (lower-demanded x t)
    tested false t e = absurd (bad-apart c e)

target-valid : (o : Op) (x : List ℕ) (c : Clause) → TargetAnswers o x (Ok c) → IsValidClause c
target-valid op.Exact x c h = demanded-valid x c h
target-valid o x c h = answers-valid o x c h

-- what a text is read as is a clause
pub clause-valid : (text : List ℕ) (c : Clause) → IsClause text c → IsValidClause c
clause-valid text c = found (operator_of (trimmed text))
  where
    found : (o : Option Op) → ReadsClauseAs o (trimmed text) (Ok c) → IsValidClause c
    found None h = absurd (apart c h)
      where
        apart : (c : Clause) → Ok c ≡ Err fault.NoOperator → ⊥
        apart c e = cc e
    found (Some o) h = target-valid o (trimmed (drop (length (operator_text o)) (trimmed text))) c h

-- ---- what is written is read

text-clause : (b : ℕ) → is_text_byte b ≡ true → is_clause_byte b ≡ true
text-clause b h = grind (arith, nat_tests)

-- a text without `*` does not end in `.*`
text-no-star : (b : ℕ) → is_text_byte b ≡ true → (42 == b) ≡ false
text-no-star b h = grind (arith, nat_tests)

all-drop : (p : ℕ → Bool) (xs : List ℕ) (n : ℕ) → list_all p xs ≡ true →
    list_all p (drop n xs) ≡ true
all-drop p xs n h =
    let both : (list_all p (take n xs) && list_all p (drop n xs)) ≡ true =
    sym (list_all-append p (take n xs) (drop n xs)) ∙ ap (list_all p) (take-append-drop n xs)
    ∙ h in
    and_second (list_all p (take n xs)) (list_all p (drop n xs)) both

no-star : (xs : List ℕ) → list_all is_text_byte xs ≡ true → ends_with nat_eq xs (codes ".*") ≡ false
no-star xs h = last (drop (length xs - 2) xs) (all-drop is_text_byte xs (length xs - 2) h)
  where
    last : (ys : List ℕ) → list_all is_text_byte ys ≡ true →
        pointwise nat_eq (codes ".*") ys ≡ false
    last [] h = refl
    last (a ∷ []) h = and-false (46 == a)
    last (a ∷ b ∷ ys) h =
        let byte =
        and_first (is_text_byte b) (list_all is_text_byte ys)
        (and_second (is_text_byte a) (list_all is_text_byte (b ∷ ys)) h) in
        let apart = text-no-star b byte in
        rw apart (and-false (46 == a))

-- a text and `.*`
star-length : (n : List ℕ) → length (n ++ codes ".*") - 2 ≡ length n
star-length n = omega (arith, length-append {A = ℕ})

star-end : (n : List ℕ) → ends_with nat_eq (n ++ codes ".*") (codes ".*") ≡ true
star-end n =
    let last : drop (length (n ++ codes ".*") - 2) (n ++ codes ".*") ≡ codes ".*" =
    ap (λ k. drop k (n ++ codes ".*")) (star-length n) ∙ drop-append_seam n (codes ".*") in
    ap (pointwise nat_eq (codes ".*")) last

star-front : (n : List ℕ) → take (length (n ++ codes ".*") - 2) (n ++ codes ".*") ≡ n
star-front n = ap (λ k. take k (n ++ codes ".*")) (star-length n) ∙ take-append_seam n (codes ".*")

ink-ends : (n : List ℕ) → list_all is_ink n ≡ true → ends_in_space n ≡ false
ink-ends n h = ap (λ (t : List ℕ). not (length t == length n)) (ink-end n h) ∙ same (length n)
  where
    same : (k : ℕ) → not (k == k) ≡ false
    same k = grind (arith, nat_tests)

-- the normal text of a version behind an operator
version-written : (o : Op) (v : Version) (c : Clause) →
    list_all is_text_byte (normal_text v) ≡ true → Reads (normal_text v) (Ok v)
    → Ok c ≡ version_clause o v → VersionAnswers o (normal_text v) (Ok c)
version-written o v c bytes reads gives = rw (no-star (normal_text v) bytes) (Ok v, reads, gives)

-- the same with `.*` behind it
prefix-written : (o : Op) (v : Version) (c : Clause) → list_all is_text_byte (normal_text v) ≡ true
    → Reads (normal_text v) (Ok v)
    → Ok c ≡ prefix_answer o (Ok v) → VersionAnswers o (normal_text v ++ codes ".*") (Ok c)
prefix-written o v c bytes reads gives =
    let ink =
    list_all-weaker is_text_byte is_ink (λ b h. clause-ink b (text-clause b h))
    (normal_text v) bytes in
    rw (star-end (normal_text v), star-front (normal_text v), ink-ends (normal_text v) ink) (
      Ok v,
      reads,
      gives,
    )

prefix-shape : (p : Prefix) → prefix_text p ≡ normal_text (final_version p) ++ codes ".*"
prefix-shape p = simp append-nil

demanded-lower : (xs : List ℕ) → list_all (λ b. is_clause_byte b && not (is_ascii_uppercase b)) xs
    ≡ true → str_to_ascii_lowercase xs ≡ xs
demanded-lower [] h = refl
demanded-lower (b ∷ xs) h =
    let byte : (is_clause_byte b && not (is_ascii_uppercase b)) ≡ true =
    and_first _ (list_all (λ b. is_clause_byte b && not (is_ascii_uppercase b)) xs) h in
    let small =
    lowered-none b (not-true (is_ascii_uppercase b)
    (and_second (is_clause_byte b) (not (is_ascii_uppercase b)) byte)) in
    let more =
    demanded-lower xs (and_second (is_clause_byte b
    && not (is_ascii_uppercase b)) (list_all (λ b. is_clause_byte b
    && not (is_ascii_uppercase b)) xs) h) in
    λ i. small i ∷ more i

demanded-bytes : (xs : List ℕ) → list_all (λ b. is_clause_byte b && not (is_ascii_uppercase b)) xs
    ≡ true → list_all is_clause_byte xs ≡ true
demanded-bytes =
    list_all-weaker (λ b. is_clause_byte b && not (is_ascii_uppercase b)) is_clause_byte
    (λ b h. and_first (is_clause_byte b) (not (is_ascii_uppercase b)) h)

demanded-written : (xs : List ℕ) → is_demanded_text xs ≡ true → Ok (demanded xs) ≡ demanded_of xs
demanded-written xs h =
    let some =
    and_first (not (is_empty xs)) (list_all (λ b. is_clause_byte b
    && not (is_ascii_uppercase b)) xs) h in
    let small =
    and_second (not (is_empty xs)) (list_all (λ b. is_clause_byte b
    && not (is_ascii_uppercase b)) xs) h in
    let bytes = demanded-bytes xs small in
    rw (some, bytes) (ap (λ (t : List ℕ). Ok (demanded t)) (sym (demanded-lower xs small)))

-- .. behind `===`
pub demanded-read : (xs : List ℕ) → is_demanded_text xs ≡ true → IsClauseOf op.Exact xs (demanded xs)
demanded-read xs h =
    let bytes = demanded-bytes xs (and_second (not (is_empty xs)) (list_all (λ b. is_clause_byte b
    && not (is_ascii_uppercase b)) xs) h) in
    subst (λ t. Ok (demanded xs) ≡ demanded_of t) (sym (ink-trimmed xs (list_all-weaker is_clause_byte is_ink clause-ink xs bytes))) (demanded-written xs h)

-- the clause of an operator and a version that has no label
public-gives : (label : List Segment) (answer : Result Clause ClauseFault) → label ≡ [] →
    answer ≡ (if is_empty label then answer else Err fault.LocalNotAllowed)
public-gives [] answer h = refl
public-gives (s ∷ label) answer h = cc h

two-numbers : (v : Version) → 1 < length v.release → v.label ≡ [] →
    Ok (compatible v) ≡ version_clause op.Compatible v
two-numbers v more bare = numbers (length v.release) more ∙ public-gives v.label _ bare
  where
    numbers : (n : ℕ) → 1 < n → Ok (compatible v) ≡ (if nat_lt 1 n then Ok (compatible v)
        else Err fault.OneNumber)
    numbers n h = let two : nat_lt 1 n ≡ true = grind (arith, nat_tests) in rw two refl

-- the two laws of versions that this rests on: a version's normal text is read as it, and has the
-- bytes that it has
abbrev pub ReadsBack : Type 0
ReadsBack = (v : Version) → IsVersion v → Reads (normal_text v) (Ok v)

abbrev pub HasTextBytes : Type 0
HasTextBytes = (v : Version) → IsVersion v → list_all is_text_byte (normal_text v) ≡ true

normal-written : ReadsBack → HasTextBytes → (o : Op) (v : Version) (c : Clause) → IsVersion v →
    (VersionAnswers o (normal_text v) (Ok c) → TargetAnswers o (normal_text v) (Ok c))
    → Ok c ≡ version_clause o v → IsClause (operator_text o ++ normal_text v) c
normal-written back has o v c is target gives =
    let bytes = has v is in
    written o (normal_text v) c (list_all-weaker is_text_byte is_clause_byte text-clause
    (normal_text v) bytes) (target (version-written o v c bytes (back v is) gives))

star-written : ReadsBack → HasTextBytes → (o : Op) (p : Prefix) (c : Clause) → IsPrefix p
    → (VersionAnswers o (normal_text (final_version p) ++ codes ".*") (Ok c) →
    TargetAnswers o (normal_text (final_version p) ++ codes ".*") (Ok c))
    → Ok c ≡ prefix_clause o p → IsClause (operator_text o ++ prefix_text p) c
star-written back has o p c is target gives =
    let v = final_version p in
    let bytes = has v is in
    let clause_bytes : list_all is_clause_byte (normal_text v ++ codes ".*") ≡ true =
    rw (
      list_all-append is_clause_byte (normal_text v) (codes ".*"),
      list_all-weaker is_text_byte is_clause_byte text-clause (normal_text v) bytes,
    ) refl in
    let read =
    written o (normal_text v ++ codes ".*") c clause_bytes
    (target (prefix-written o v c bytes (back v is) gives)) in
    subst (λ t. IsClause (operator_text o ++ t) c) (sym (prefix-shape p)) read

-- a clause is read back from its own text
pub valid-written : ReadsBack → HasTextBytes → (c : Clause) → IsValidClause c →
    IsClause (clause_text c) c
valid-written back has (compatible v) is =
    normal-written back has op.Compatible v (compatible v) is.0.0 (λ h. h)
    (two-numbers v is.1 is.0.1)
valid-written back has (matching v) is =
    normal-written back has op.Equal v (matching v) is (λ h. h) refl
valid-written back has (matching_prefix p) is =
    star-written back has op.Equal p (matching_prefix p) is (λ h. h) refl
valid-written back has (excluding v) is =
    normal-written back has op.NotEqual v (excluding v) is (λ h. h) refl
valid-written back has (excluding_prefix p) is =
    star-written back has op.NotEqual p (excluding_prefix p) is (λ h. h) refl
valid-written back has (at_most v) is =
    normal-written back has op.AtMost v (at_most v) is.0 (λ h. h) (public-gives v.label _ is.1)
valid-written back has (at_least v) is =
    normal-written back has op.AtLeast v (at_least v) is.0 (λ h. h) (public-gives v.label _ is.1)
valid-written back has (less_than v) is =
    normal-written back has op.Less v (less_than v) is.0 (λ h. h) (public-gives v.label _ is.1)
valid-written back has (greater_than v) is =
    normal-written back has op.More v (greater_than v) is.0 (λ h. h) (public-gives v.label _ is.1)
valid-written back has (demanded text) is =
    written op.Exact text (demanded text) (demanded-bytes text
    (and_second (not (is_empty text)) (list_all (λ b. is_clause_byte b
    && not (is_ascii_uppercase b)) text) is)) (demanded-written text is)

-- what some text is read as is read back from its own text
pub clause-written : ReadsBack → HasTextBytes → (text : List ℕ) (c : Clause) → IsClause text c →
    IsClause (clause_text c) c
clause-written back has text c h = valid-written back has c (clause-valid text c h)

-- ---- a clause's text is an operator and a run

version-run : HasTextBytes → (o : Op) (v : Version) → IsVersion v →
    IsOperatorAndRun (operator_text o ++ normal_text v)
version-run has o v is = record {
  operator = o;
  run = normal_text v;
  whole = refl;
  bytes = list_all-weaker is_text_byte is_clause_byte text-clause (normal_text v) (has v is);
}

prefix-run : HasTextBytes → (o : Op) (p : Prefix) → IsPrefix p →
    IsOperatorAndRun (operator_text o ++ prefix_text p)
prefix-run has o p is =
    let v = final_version p in
    let bytes : list_all is_clause_byte (normal_text v ++ codes ".*") ≡ true =
    rw (
      list_all-append is_clause_byte (normal_text v) (codes ".*"),
      list_all-weaker is_text_byte is_clause_byte text-clause (normal_text v) (has v is),
    ) refl in
    record {
      operator = o;
      run = prefix_text p;
      whole = refl;
      bytes = subst (λ t. list_all is_clause_byte t ≡ true) (sym (prefix-shape p)) bytes;
    }

valid-run : HasTextBytes → (c : Clause) → IsValidClause c → IsOperatorAndRun (clause_text c)
valid-run has (compatible v) is = version-run has op.Compatible v is.0.0
valid-run has (matching v) is = version-run has op.Equal v is
valid-run has (matching_prefix p) is = prefix-run has op.Equal p is
valid-run has (excluding v) is = version-run has op.NotEqual v is
valid-run has (excluding_prefix p) is = prefix-run has op.NotEqual p is
valid-run has (at_most v) is = version-run has op.AtMost v is.0
valid-run has (at_least v) is = version-run has op.AtLeast v is.0
valid-run has (less_than v) is = version-run has op.Less v is.0
valid-run has (greater_than v) is = version-run has op.More v is.0
valid-run has (demanded text) is = record {
  operator = op.Exact;
  run = text;
  whole = refl;
  bytes = demanded-bytes text
      (and_second (not (is_empty text)) (list_all (λ b. is_clause_byte b
      && not (is_ascii_uppercase b)) text) is);
}

pub clause-run : HasTextBytes → (text : List ℕ) (c : Clause) → IsClause text c →
    IsOperatorAndRun (clause_text c)
clause-run has text c h = valid-run has c (clause-valid text c h)
