-- An operator and a text have one answer at most, lack of memory apart.
use Rattle.std.proofs.Common.{◌≡◌, ◌≢◌, ℕ, Bool, true, false, List, [], ◌∷◌, ◌++◌, ◌-◌, take}
use Rattle.std.proofs.Common.{length, refl, sym, ap, ◌∙◌, Option, None, Result, Ok, Err}
use Rattle.std.specs.Prelude.{MatchBool, codes, nat_eq}
use Rattle.std.specs.List.{ends_with, list_all}
use Rattle.pep_version.specs.Spelling.{Reads, SpellsAny, dotted_parts, is_number}
use Rattle.texts.specs.Space.{trimmed}
use Rattle.pep_version.specs.Version.{Version}
use Rattle.pep_version.specs.declared.fault.VersionFault.{VersionFault}
use Rattle.pep_version.specs.declared.fault.VersionFault.TheVariants as version_fault
use Rattle.specifiers.specs.Clause.{Clause, ClauseOf, TargetAnswers, PrefixAnswers}
use Rattle.specifiers.specs.Clause.{demanded_text}
use Rattle.specifiers.specs.Clause.{ReadsThen, VersionAnswers, demanded_of, ends_in_space}
use Rattle.specifiers.specs.Clause.{prefix_answer, version_answer}
use Rattle.specifiers.specs.declared.fault.ClauseFault.{ClauseFault}
use Rattle.specifiers.specs.declared.fault.ClauseFault.TheVariants as fault
use Rattle.specifiers.specs.declared.op.Op.{Op}
use Rattle.specifiers.specs.declared.op.Op.TheVariants as op

-- a text is read as one version, or refused in one way
reads-one : (text : List ℕ) (r s : Result Version VersionFault) → Reads text r → Reads text s
    → r ≢ Err version_fault.NoMemory → s ≢ Err version_fault.NoMemory → r ≡ s
reads-one text (Ok v) (Ok w) h g a b = ap (λ (u : Version). Ok u) (sym (h.1 w g.0.0))
reads-one text (Ok v) (Err version_fault.NotAVersion) h g a b = absurd (g v h.0.0)
reads-one text (Ok v) (Err version_fault.NumberTooLarge) h g a b = absurd (g.1 v h.0)
reads-one text (Err version_fault.NotAVersion) (Ok w) h g a b = absurd (h w g.0.0)
reads-one text (Err version_fault.NumberTooLarge) (Ok w) h g a b = absurd (h.1 w g.0)
reads-one text (Err version_fault.NotAVersion) (Err version_fault.NotAVersion) h g a b = refl
reads-one text (Err version_fault.NumberTooLarge) (Err version_fault.NumberTooLarge) h g a b = refl
reads-one text (Err version_fault.NotAVersion) (Err version_fault.NumberTooLarge) h g a b =
    absurd (h g.0.0 g.0.1)
reads-one text (Err version_fault.NumberTooLarge) (Err version_fault.NotAVersion) h g a b =
    absurd (g h.0.0 h.0.1)
reads-one text (Err version_fault.NoMemory) s h g a b = absurd (a refl)
reads-one text r (Err version_fault.NoMemory) h g a b = absurd (b refl)

abbrev pub IsAnswer : Result Clause ClauseFault → Type 0
IsAnswer a = a ≢ Err fault.NoMemory

then-one : (text : List ℕ) (next : Result Version VersionFault → Result Clause ClauseFault) →
    next (Err version_fault.NoMemory) ≡ Err fault.NoMemory
    → (a b : Result Clause ClauseFault) → ReadsThen text next a → ReadsThen text next b →
    IsAnswer a → IsAnswer b → a ≡ b
then-one text next passes a b h g m n =
    h.2 ∙ ap next (reads-one text h.0 g.0 h.1 g.1 (λ e. m (h.2 ∙ ap next e ∙ passes)) (λ e. n (g.2
    ∙ ap next e ∙ passes))) ∙ sym g.2

prefix-one : (o : Op) (front : List ℕ) (t : Bool) (a b : Result Clause ClauseFault)
    → MatchBool t (a ≡ Err fault.BadVersion) (ReadsThen front (prefix_answer o) a)
    → MatchBool t (b ≡ Err fault.BadVersion) (ReadsThen front (prefix_answer o) b) → IsAnswer a →
    IsAnswer b → a ≡ b
prefix-one o front true a b h g m n = h ∙ sym g
prefix-one o front false a b h g m n = then-one front (prefix_answer o) refl a b h g m n

answers-one : (o : Op) (text front : List ℕ) (t : Bool) (a b : Result Clause ClauseFault)
    → MatchBool t (PrefixAnswers o front a) (ReadsThen text (version_answer o) a)
    → MatchBool t (PrefixAnswers o front b) (ReadsThen text (version_answer o) b) → IsAnswer a →
    IsAnswer b → a ≡ b
answers-one o text front true a b h g m n = prefix-one o front (ends_in_space front) a b h g m n
answers-one o text front false a b h g m n = then-one text (version_answer o) refl a b h g m n

version-one : (o : Op) (text : List ℕ) (a b : Result Clause ClauseFault) → VersionAnswers o text a →
    VersionAnswers o text b → IsAnswer a → IsAnswer b → a ≡ b
version-one o text a b h g m n =
    answers-one o text (take (length text - 2) text) (ends_with nat_eq text (codes ".*")) a b h g m
    n

-- with any operator but `===` the text is read as a version
pub told-version : (o : Op) (text : List ℕ) (a : Result Clause ClauseFault) → o ≢ op.Exact →
    IsAnswer a → TargetAnswers o text a → VersionAnswers o text a
told-version op.Exact text a other m h = absurd (other refl)
told-version o text (Ok c) other m h = h
told-version o text (Err fault.NoOperator) other m h = h
told-version o text (Err fault.BadVersion) other m h = h
told-version o text (Err fault.StarNotAllowed) other m h = h
told-version o text (Err fault.LocalNotAllowed) other m h = h
told-version o text (Err fault.OneNumber) other m h = h
told-version o text (Err fault.NumberTooLarge) other m h = h
told-version o text (Err fault.NoMemory) other m h = absurd (m refl)

told-exact : (text : List ℕ) (a : Result Clause ClauseFault) → IsAnswer a →
    TargetAnswers op.Exact text a → a ≡ demanded_of text
told-exact text (Ok c) m h = h
told-exact text (Err fault.NoOperator) m h = h
told-exact text (Err fault.BadVersion) m h = h
told-exact text (Err fault.StarNotAllowed) m h = h
told-exact text (Err fault.LocalNotAllowed) m h = h
told-exact text (Err fault.OneNumber) m h = h
told-exact text (Err fault.NumberTooLarge) m h = h
told-exact text (Err fault.NoMemory) m h = absurd (m refl)

target-one : (o : Op) (text : List ℕ) (a b : Result Clause ClauseFault) → TargetAnswers o text a →
    TargetAnswers o text b → IsAnswer a → IsAnswer b → a ≡ b
target-one op.Exact text a b h g m n = told-exact text a m h ∙ sym (told-exact text b n g)
target-one o text a b h g m n =
    version-one o text a b (told-version o text a (λ e. cc e) m h)
    (told-version o text b (λ e. cc e) n g) m n

pub one-answer : (o : Op) (text : List ℕ) (a b : Result Clause ClauseFault) → ClauseOf o text a →
    ClauseOf o text b → IsAnswer a → IsAnswer b → a ≡ b
one-answer o text a b h g m n = target-one o (trimmed text) a b h g m n

abbrev pub answer_ok : Clause → Result Clause ClauseFault
answer_ok c = Ok c

pub same_clause : (c d : Clause) → answer_ok c ≡ answer_ok d → c ≡ d
same_clause c d h = cc h

pub one-clause-of : (o : Op) (text : List ℕ) (c d : Clause) → ClauseOf o text (Ok c) →
    ClauseOf o text (Ok d) → c ≡ d
one-clause-of o text c d h g =
    same_clause c d (one-answer o text (Ok c) (Ok d) h g (λ e. cc e) (λ e. cc e))

-- a version is written with a byte at least
some-bytes : (v : Version) → SpellsAny [] v → ⊥
some-bytes v s =
    none s.release _ (behind_none s.epoch _ (behind_none s.preceding_v _ (sym s.pieces)))
    s.release_is.0
  where
    behind_none : (x y : List ℕ) → x ++ y ≡ [] → y ≡ []
    behind_none [] y h = h
    behind_none (b ∷ x) y h = cc h

    none : (release rest : List ℕ) → release ++ rest ≡ [] →
        list_all is_number (dotted_parts release) ≡ true → ⊥
    none [] rest h g = cc g
    none (b ∷ release) rest h g = cc h

nothing-read : (o : Op) (c : Clause) → ReadsThen [] (version_answer o) (Ok c) → ⊥
nothing-read o c (Ok v, reads, gives) = some-bytes v reads.0.0
nothing-read o c (Err e, reads, gives) = cc gives

-- an operator with nothing behind it writes no clause
pub no-clause-of-nothing : (o : Op) (c : Clause) → ClauseOf o [] (Ok c) → ⊥
no-clause-of-nothing op.Exact c h = cc h
no-clause-of-nothing o c h = nothing-read o c h

-- the text of an answer's clause
abbrev text_in : Result Clause ClauseFault → Option (List ℕ)
text_in (Ok c) = demanded_text c
text_in (Err e) = None
