-- An entry of a table file begins on one line, and a line or text of an input is one requirement.
use Rattle.std.proofs.Common.{◌≡◌, ℕ, List, [], ◌∷◌, ◌++◌, length, Ok, Option, refl, sym, ap, subst, ◌∙◌}
use Rattle.std.proofs.Common.{inl, arith}
use Rattle.std.proofs.lemmas.List.{append_cancel_right}
use Rattle.pep_marker.specs.Environment.{EnvironmentParts}
use Rattle.pep_require.proofs.Ascending.{rest_ascends}
use Rattle.pep_require.proofs.LineLaws.{one_requirement}
use Rattle.pep_require.specs.Reads.{Reads}
use Rattle.pep_require.specs.Requirement.{IsAscending, RequirementParts}
use Rattle.demands.specs.Table.{EntryParts, TableParts, names}
use Rattle.documents.proofs.GroupEnds.{one_texts}
use Rattle.documents.specs.RefusedProject.{IsNumbered}
use Rattle.pep_table.proofs.EntryPlaces.{behind_apart}
use Rattle.pep_table.specs.OneText.{one_list_of_lines}
use Rattle.pep_table.specs.TableText.{AreTableLines}
use Rattle.inputs.proofs.AcceptedInputs.{one_table_in}
use Rattle.inputs.specs.declared.input.Kind.{Kind}
use Rattle.inputs.specs.declared.input.Kind.TheVariants as kind
use Rattle.inputs.specs.Lists.{content, lines_of}
use Rattle.reasons.specs.Places.{BeginsOn, RequiresAt}

-- the first line has the number 1, and the one behind a line of one feed the number 2
first_number : length (lines_of []) ≡ 1
first_number = refl

second_number : length (lines_of (97 ∷ 10 ∷ [])) ≡ 2
second_number = refl

-- ---- numbered elements

one_numbered_by : {A : Type 0} (b c : List A) (x y : A) (d f : List A) → length b ≡ length c →
    b ++ x ∷ d ≡ c ++ y ∷ f → x ≡ y
one_numbered_by [] [] x y d f l e = cc e
one_numbered_by [] (c ∷ cs) x y d f l e = absurd (omega (arith, l))
one_numbered_by (b ∷ bs) [] x y d f l e = absurd (omega (arith, l))
one_numbered_by (b ∷ bs) (c ∷ cs) x y d f l e =
    one_numbered_by bs cs x y d f (omega (arith, l)) (cc e)

pub one_numbered : {A : Type 0} (xs : List A) (n : ℕ) (x y : A) → IsNumbered xs n x →
    IsNumbered xs n y → x ≡ y
one_numbered xs n x y h g =
    one_numbered_by h.before g.before x y h.behind g.behind
    (let a = h.counted in let b = g.counted in omega (arith, a, b)) (sym h.whole ∙ g.whole)

-- at one number stands one requirement
pub one_required : (extra : List ℕ) (k : Kind) (group : Option (List ℕ)) (bytes : List ℕ)
    (number : ℕ) (r s : RequirementParts) → RequiresAt extra k group bytes number r →
    RequiresAt extra k group bytes number s → r ≡ s
one_required extra kind.List group bytes number r s h g =
    let line : h.line ≡ g.line =
    one_numbered (lines_of bytes) number h.line g.line h.numbered g.numbered in
    one_requirement (content g.line) r s (subst (λ (t : List ℕ). Reads (content t) r) line h.reads) g.reads
one_required extra kind.Project group bytes number r s h g =
    let texts : h.texts ≡ g.texts = cc (one_texts extra group bytes (Ok h.texts) (Ok g.texts) h.asked g.asked) in
    let text : h.text ≡ g.text =
    one_numbered g.texts number h.text g.text
    (subst (λ l. IsNumbered l number h.text) texts h.numbered) g.numbered in
    one_requirement g.text r s (subst (λ (t : List ℕ). Reads t r) text h.reads) g.reads
one_required extra kind.Table group bytes number r s h g = absurd h

-- ---- entries

pub record SameCut (b c : TableParts) (x y : EntryParts) (n : List ℕ) (d f : TableParts) : Type 0 where
  pub front : b ≡ c
  pub entry : x ≡ y
  pub rest : (n, x) ∷ d ≡ (n, y) ∷ f

-- one name stands in one place of a table
same_cut : (b c : TableParts) (n : List ℕ) (x y : EntryParts) (d f : TableParts) →
    IsAscending (names (b ++ (n, x) ∷ d)) → IsAscending (names (c ++ (n, y) ∷ f)) →
    b ++ (n, x) ∷ d ≡ c ++ (n, y) ∷ f → SameCut b c x y n d f
same_cut [] [] n x y d f up more e =
    record { front = refl; entry = ap (λ t. first_entry t x) e; rest = e }
  where
    first_entry : TableParts → EntryParts → EntryParts
    first_entry [] other = other
    first_entry (p ∷ t) other = p.1
same_cut [] (q ∷ c) n x y d f up more e =
    let first : n ≡ q.0 = ap (λ t. first_name t) e in
    absurd (behind_apart (q ∷ c) (n, y) f more (inl first))
  where
    first_name : TableParts → List ℕ
    first_name [] = []
    first_name (p ∷ t) = p.0
same_cut (q ∷ b) [] n x y d f up more e =
    let first : q.0 ≡ n = ap (λ t. first_name t) e in
    absurd (behind_apart (q ∷ b) (n, x) d up (inl (sym first)))
  where
    first_name : TableParts → List ℕ
    first_name [] = []
    first_name (p ∷ t) = p.0
same_cut (p ∷ b) (q ∷ c) n x y d f up more e =
    let first : p ≡ q = cc e in
    let others : b ++ (n, x) ∷ d ≡ c ++ (n, y) ∷ f = cc e in
    let found = same_cut b c n x y d f (rest_ascends p.0 (names (b ++ (n, x) ∷ d)) up)
    (rest_ascends q.0 (names (c ++ (n, y) ∷ f)) more) others in
    record { front = λ i. first i ∷ found.front i; entry = found.entry; rest = found.rest }

pub one_line_of_entry : (e : EnvironmentParts) (bytes : List ℕ) (m n : ℕ) (name : List ℕ)
    (x y : EntryParts) → BeginsOn e bytes m name x → BeginsOn e bytes n name y →
    (m ≡ n) × (x ≡ y)
one_line_of_entry e bytes m n name x y h g =
    let whole = one_table_in e kind.Table bytes (h.before ++ (name, x) ∷ h.behind)
    (g.before ++ (name, y) ∷ g.behind) h.table g.table in
    let cut = same_cut h.before g.before name x y h.behind g.behind h.table.valid.names.0
    g.table.valid.names.0 whole in
    let rest : h.rest ≡ g.rest =
    one_list_of_lines ((name, y) ∷ g.behind) h.rest g.rest
    (subst (λ (t : TableParts). AreTableLines t h.rest) cut.rest h.lines) g.lines in
    let front : h.front ≡ g.front =
    append_cancel_right h.front g.front g.rest
    (ap (λ (t : List ℕ). h.front ++ t) (sym rest) ∙ sym h.whole ∙ g.whole) in
    (h.counted ∙ ap (λ (t : List ℕ). length (lines_of t)) front ∙ sym g.counted, cut.entry)
