-- A marker has one truth in an environment: a text spells one version, and an operator and a text
-- make one clause.
use Rattle.std.proofs.Common.{◌≡◌, ◌≢◌, ℕ, Bool, true, false, List, refl, sym, ◌∙◌, inl, inr, ◌&&◌}
use Rattle.std.specs.Prelude.{Ok, Err, IfOk, MatchBool, MatchOption, None, Option, Result, Some, ◌||◌}
use Rattle.pep_version.specs.Spelling.{Reads, Spells}
use Rattle.pep_version.specs.Version.{Version}
use Rattle.pep_version.specs.declared.fault.VersionFault.{VersionFault}
use Rattle.pep_version.specs.declared.fault.VersionFault.TheVariants as read
use Rattle.pep_version.proofs.OneVersion.{one-version}
use Rattle.specifiers.specs.Admits.{SaysOf, admits}
use Rattle.specifiers.specs.Clause.{Clause, ClauseOf}
use Rattle.specifiers.specs.declared.fault.ClauseFault.{ClauseFault}
use Rattle.specifiers.specs.declared.fault.ClauseFault.TheVariants as made
use Rattle.specifiers.specs.declared.op.Op.{Op}
use Rattle.specifiers.specs.declared.op.Op.TheVariants.{Equal, Exact}
use Rattle.specifiers.proofs.OneAnswer.{one-answer, one-clause-of}
use Rattle.specifiers.proofs.OneOperand.{equal_too}
use Rattle.pep_marker.specs.Environment.{EnvironmentParts}
use Rattle.pep_marker.specs.Holds.{Compares, Evaluates, Truth, both, is_extra}
use Rattle.pep_marker.specs.Way.ComparedView.{VersionsSay}
use Rattle.pep_marker.specs.Holds.{operand_value, plain_truth}
use Rattle.pep_marker.specs.Marker.{MarkerParts, Operator, and, compare, is_in, is_not_in, or}
use Rattle.pep_marker.specs.Marker.{version_operator}
use Rattle.pep_marker.specs.Name.{normalized}
use Rattle.pep_marker.specs.Way.Value.{IsMatchingOf, IsVersionOf}
use Rattle.std.specs.Borrow.{Bor}
use Rattle.std.specs.Option.{option_copied}
use Rattle.std.proofs.Common.{subst}

same_version : (x : List ℕ) (v w : Version) → Spells x v → Spells x w → v ≡ w
same_version x v w h g = one-version x v w h.0 g.0

-- what a comparison by an operator of version clauses says
abbrev Sides : Op → List ℕ → List ℕ → Truth → Type 0
Sides o l r truth = Compares (version_operator o) l r truth

sides_one : (o : Op) (l r : List ℕ) (p q : Truth) → Sides o l r p → Sides o l r q → p ≡ q
sides_one o l r p q (inl (c, v, h, e)) (inl (d, w, g, f)) =
    let one_clause = one-clause-of o r c d h.clause g.clause in
    let one_version = same_version l v w h.version g.version in
    e ∙ (λ i. Some (admits (one_clause i) (one_version i))) ∙ sym f
sides_one o l r p q (inl (c, v, h, e)) (inr (none, f)) = absurd (none c v h)
sides_one o l r p q (inr (none, e)) (inl (d, w, g, f)) = absurd (none d w g)
sides_one o l r p q (inr (none, e)) (inr (other, f)) = e ∙ sym f

compares_one : (o : Operator) (l r : List ℕ) (p q : Truth) → Compares o l r p →
    Compares o l r q → p ≡ q
compares_one (version_operator o) l r p q h g = sides_one o l r p q h g
compares_one is_in l r p q h g = h ∙ sym g
compares_one is_not_in l r p q h g = h ∙ sym g

by_extra : (b : Bool) (P Q P' Q' R : Type 0) → (P → P' → R) → (Q → Q' → R) → MatchBool b P Q →
    MatchBool b P' Q' → R
by_extra true P Q P' Q' R f g h k = f h k
by_extra false P Q P' Q' R f g h k = g h k

pub evaluates_one : (e : EnvironmentParts) (m : MarkerParts) (p q : Truth) → Evaluates e m p →
    Evaluates e m q → p ≡ q
evaluates_one e (compare l o r) p q h g =
    let left = operand_value e l in
    let right = operand_value e r in
    let plain = plain_truth o (normalized left) (normalized right) in
    by_extra (is_extra l || is_extra r) (p ≡ plain) (Compares o left right p) (q ≡ plain)
    (Compares o left right q) (p ≡ q) (λ a b. a ∙ sym b) (compares_one o left right p q) h g
evaluates_one e (and m n) p q (a, b, h, k, f) (c, d, h', k', f') =
    let left = evaluates_one e m a c h h' in
    let right = evaluates_one e n b d k k' in
    f ∙ (λ i. both (λ x y. x && y) (left i) (right i)) ∙ sym f'
evaluates_one e (or m n) p q (a, b, h, k, f) (c, d, h', k', f') =
    let left = evaluates_one e m a c h h' in
    let right = evaluates_one e n b d k k' in
    f ∙ (λ i. both (λ x y. x || y) (left i) (right i)) ∙ sym f'

-- ---- a clause and a text

-- what a clause says of a text is what its operator and its text say
pub clause_says : {E : Type 0} (o : Op) (l r : List ℕ) (c : Clause) (t : Result (Option Bool) E) →
    o ≢ Exact → ClauseOf o r (Ok c) →
    IfOk t (λ found. MatchOption found ((v : Version) → ¬ Spells l v)
    (λ b. (v : Version) × Spells l v × (b ≡ admits c v))) →
    IfOk t (VersionsSay o l r)
clause_says o l r c (Err e) differs made says = tt
clause_says o l r c (Ok None) differs made says = λ d v h. says v h.version
clause_says o l r c (Ok (Some b)) differs made (v, spells, is) =
    (c, v, record { not_exact = differs; clause = made; version = spells }, is)

-- what is said of each text that makes a clause is said of this one
pub handed : {E : Type 0} (o : Op) (l r : List ℕ) (c : Clause) (t : Result (Option Bool) E) →
    o ≢ Exact → ClauseOf Equal r (Ok c) →
    IfOk t (λ found. (x : List ℕ) → ClauseOf Equal x (Ok c) → o ≢ Exact → VersionsSay o l x found) →
    IfOk t (VersionsSay o l r)
handed o l r c (Err e) differs made says = tt
handed o l r c (Ok found) differs made says = says r made differs

-- .. and what its operator and the text of the clause of `==` say of the text
pub operand_says : (o : Op) (l r : List ℕ) (v : Version) (t : Option Bool) → o ≢ Exact → Spells l v →
    SaysOf o r v t → VersionsSay o l r t
operand_says o l r v None differs spells says =
    λ c w h. says c h.clause
operand_says o l r v (Some b) differs spells (c, made, is) =
    (c, v, record { not_exact = differs; clause = made; version = spells }, is)

pub spells_none : (o : Op) (l r : List ℕ) → ((v : Version) → ¬ Spells l v) → VersionsSay o l r None
spells_none o l r none = λ c v h. none v h.version

-- where no clause of `==` is made of a text, none is with another operator
pub makes_none : (o : Op) (l r : List ℕ) → ((c : Clause) → ¬ ClauseOf Equal r (Ok c)) →
    VersionsSay o l r None
makes_none o l r none = λ c v h.
    let made = equal_too o r c h.not_exact h.clause in none made.0 made.1

-- what is found of a text, as a value keeps it and lends it
pub version_kept : (x y : List ℕ) (o : Option Version) → y ≡ x →
    MatchOption o ((v : Version) → ¬ Spells x v) (λ v. Spells x v) → IsVersionOf y o
version_kept x y None same h = λ v g. h v (subst (λ t. Spells t v) same g)
version_kept x y (Some v) same h = subst (λ t. Spells t v) (sym same) h

pub clause_kept : (x y : List ℕ) (o : Option Clause) → y ≡ x →
    MatchOption o ((c : Clause) → ¬ ClauseOf Equal x (Ok c)) (λ c. ClauseOf Equal x (Ok c)) →
    IsMatchingOf y o
clause_kept x y None same h = λ c g. h c (subst (λ t. ClauseOf Equal t (Ok c)) same g)
clause_kept x y (Some c) same h = subst (λ t. ClauseOf Equal t (Ok c)) (sym same) h

pub version_lent : (x : List ℕ) (o : Option (Bor Version)) →
    MatchOption o ((v : Version) → ¬ Spells x v) (λ f. Spells x f.now) →
    IsVersionOf x (option_copied o)
version_lent x None h = h
version_lent x (Some f) h = h

-- ---- texts that are not compared as versions

-- an operator and a text that are refused make no clause
pub no_clause : (o : Op) (x : List ℕ) (e : ClauseFault) → ClauseOf o x (Err e) →
    e ≢ made.NoMemory → (c : Clause) → ¬ ClauseOf o x (Ok c)
no_clause o x e h memory c g =
    apart (one-answer o x (Ok c) (Err e) g h memory_apart (λ same. memory (cc same)))
  where
    apart : Ok c ≡ Err e → ⊥
    apart same = cc same

    memory_apart : Ok c ≡ Err made.NoMemory → ⊥
    memory_apart same = cc same

-- a text that is refused spells no version
pub no_version : (x : List ℕ) (e : VersionFault) → Reads x (Err e) → e ≢ read.NoMemory →
    (v : Version) → ¬ Spells x v
no_version x read.NotAVersion h memory v g = h v g.0
no_version x read.NumberTooLarge h memory v g = h.1 v g
no_version x read.NoMemory h memory v g = memory refl
