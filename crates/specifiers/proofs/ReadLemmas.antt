-- Reading a clause: what the answers of its steps say of the text, and what is read is a clause.
use Rattle.std.proofs.Common.{◌≡◌, ◌≢◌, ◌&&◌, ◌||◌, ◌-◌, ◌+◌, ℕ, true, false, not, List, [], ◌∷◌}
use Rattle.std.proofs.Common.{None, Result, Ok, Err, length, take, refl, sym, ap}
use Rattle.std.proofs.Common.{subst, inl, inr, arith}
use denote.Enum.Bare.{sameb}
use Rattle.std.proofs.lemmas.Bool.{cases_Bool}
use Rattle.std.proofs.lemmas.Str.Pattern.{ends_text}
use Rattle.std.specs.Char.{is_ascii_uppercase, to_ascii_lowercase}
use Rattle.std.specs.Int.{is_in_range}
use Rattle.std.specs.List.{ends_with, list_all}
use Rattle.std.specs.Prelude.{codes, nat_eq}
use Rattle.std.specs.Result.{IsErr, IsErrAnd}
use Rattle.std.specs.Str.{str_to_ascii_lowercase}
use Rattle.std.specs.Str.Pattern.{FindsTextSuffix, StripsSuffix}
use Rattle.pep_version.specs.declared.fault.VersionFault.{VersionFault}
use Rattle.pep_version.specs.Spelling.{Reads}
use Rattle.pep_version.specs.Version.{Version}
use Rattle.texts.specs.Lists.{is_empty}
use Rattle.specifiers.specs.contracts.op.Op.{the_type}
use Rattle.specifiers.specs.declared.fault.ClauseFault.{ClauseFault}
use Rattle.specifiers.specs.declared.fault.ClauseFault.TheVariants as fault
use Rattle.specifiers.specs.declared.op.Op.{Op}
use Rattle.specifiers.specs.declared.op.Op.TheVariants as op
use Rattle.specifiers.specs.Clause.{Clause, TargetAnswers, VersionAnswers, ends_in_space}
use Rattle.texts.specs.Bytes.{is_clause_byte}
use Rattle.specifiers.specs.Clause.{is_demanded_text}
use Rattle.specifiers.specs.Clause.{prefix_answer, version_answer}
use Rattle.texts.proofs.Connectives.{and_first, and_second, or-true}

lowercase : (b : ℕ) → is_ascii_uppercase b ≡ true → is_in_range 97 122 (b + 32) ≡ true
lowercase b upper = grind arith

lowered-by : (b : ℕ) → is_ascii_uppercase b ≡ true → to_ascii_lowercase b ≡ b + 32
lowered-by b upper = grind arith

pub lowered-none : (b : ℕ) → is_ascii_uppercase b ≡ false → to_ascii_lowercase b ≡ b
lowered-none b other = grind arith

lower-byte : (b : ℕ) → is_clause_byte b ≡ true → (is_clause_byte (to_ascii_lowercase b)
    && not (is_ascii_uppercase (to_ascii_lowercase b))) ≡ true
lower-byte b h = elim (cases_Bool (is_ascii_uppercase b)) [
  | inl upper ↦
      let down : to_ascii_lowercase b ≡ b + 32 = lowered-by b upper in
      rw (down, lowered b upper, lowered-not b upper) refl
  | inr other ↦
      let same : to_ascii_lowercase b ≡ b = lowered-none b other in
      rw (same, h, other) refl
]
  where
    lowered : (b : ℕ) → is_ascii_uppercase b ≡ true → is_clause_byte (b + 32) ≡ true
    lowered b upper =
        rw (
          lowercase b upper,
          or-true (is_in_range 48 57 (b + 32)
              || is_in_range 65 90 (b + 32)),
        ) refl

    lowered-not : (b : ℕ) → is_ascii_uppercase b ≡ true → is_ascii_uppercase (b + 32) ≡ false
    lowered-not b upper = grind arith

lower-bytes : (text : List ℕ) → list_all is_clause_byte text ≡ true →
    list_all (λ b. is_clause_byte b && not (is_ascii_uppercase b)) (str_to_ascii_lowercase text)
    ≡ true
lower-bytes [] h = refl
lower-bytes (b ∷ rest) h =
    rw (lower-byte b (and_first (is_clause_byte b) (list_all is_clause_byte rest) h))
    (lower-bytes rest (and_second (is_clause_byte b) (list_all is_clause_byte rest) h))

-- the text behind `===` in lower case is one that such a clause keeps
pub lower-demanded : (text : List ℕ) → (not (is_empty text) && list_all is_clause_byte text) ≡ true
    → is_demanded_text (str_to_ascii_lowercase text) ≡ true
lower-demanded [] h = h
lower-demanded (b ∷ rest) h = lower-bytes (b ∷ rest) h

-- ---- a text without white space at its ends, behind an operator

-- with any operator but `===` the text is read as a version
pub target-any : (o : Op) (text : List ℕ) (answer : Result Clause ClauseFault) → o ≢ op.Exact →
    VersionAnswers o text answer → TargetAnswers o text answer
target-any op.Exact text answer other h = absurd (other refl)
target-any o text (Ok c) other h = h
target-any o text (Err fault.NoOperator) other h = h
target-any o text (Err fault.BadVersion) other h = h
target-any o text (Err fault.StarNotAllowed) other h = h
target-any o text (Err fault.LocalNotAllowed) other h = h
target-any o text (Err fault.OneNumber) other h = h
target-any o text (Err fault.NumberTooLarge) other h = h
target-any o text (Err fault.NoMemory) other h = tt

-- what `strip_suffix(".*")` says
star : (text front : List ℕ) → StripsSuffix (FindsTextSuffix (codes ".*")) text front →
    (ends_with nat_eq text (codes ".*") ≡ true) × (front ≡ take (length text - 2) text)
star text front (n, found, cut, len) =
    let two : n ≡ 2 = found.0 in
    (sym (ends_text true (codes ".*") text (n, found, omega arith, rw two found.2)), rw (← two) cut)

no-star : (text : List ℕ) → FindsTextSuffix (codes ".*") text None →
    ends_with nat_eq text (codes ".*") ≡ false
no-star text none = sym (ends_text false (codes ".*") text none)

-- what stands before `.*` is read as a version
pub prefix-target : (o : Op) (text front : List ℕ) (read : Result Version VersionFault)
    (answer : Result Clause ClauseFault) → o ≢ op.Exact
    → StripsSuffix (FindsTextSuffix (codes ".*")) text front → ends_in_space front ≡ false
    → Reads front read → answer ≡ prefix_answer o read → TargetAnswers o text answer
prefix-target o text front read answer other stripped plain reads gives =
    let found = star text front stripped in
    target-any o text answer other (rw (found.0, ← found.1, plain) (read, reads, gives))

-- the text is read as a version
pub version-target : (o : Op) (text : List ℕ) (read : Result Version VersionFault)
    (answer : Result Clause ClauseFault) → o ≢ op.Exact
    → FindsTextSuffix (codes ".*") text None → Reads text read → answer ≡ version_answer o read →
    TargetAnswers o text answer
version-target o text read answer other none reads gives =
    target-any o text answer other (rw (no-star text none) (read, reads, gives))

-- the error that `?` hands on
pub error-is : {A E : Type 0} (r : Result A E) (e : E) → IsErr r × IsErrAnd r (λ f. f ≡ e) →
    r ≡ Err e
error-is (Ok a) e h = absurd h.1
error-is (Err f) e h = ap Err h.1

-- the operator that a test tells from `===`
pub not-exact : (o : Op) → sameb the_type o op.Exact ≡ false → o ≢ op.Exact
not-exact o h e =
    let apart : sameb the_type op.Exact op.Exact ≡ false =
    subst (λ x. sameb the_type x op.Exact ≡ false) e h in cc apart
