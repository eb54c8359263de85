-- One text for one set of demands: two tables of the same demands are one table, and a table has one
-- text.
use Rattle.std.proofs.Common.{◌≡◌, ℕ, Bool, true, false, List, [], ◌∷◌, ◌++◌}
use Rattle.std.proofs.Common.{refl, sym, ap, subst, ◌∙◌, inl, inr, Option, Some, None}
use Rattle.std.specs.Prelude.{⊤, Contains, IsSome, bytes_eq, is_some, ◌↔◌}
use Rattle.std.specs.Cmp.Lexicographic.{slice_cmp}
use Rattle.std.specs.List.{All}
use Rattle.std.specs.Ordering.{nat_cmp}
use Rattle.std.specs.declared.cmp.Ordering.TheVariants.{Less}
use Rattle.std.proofs.lemmas.Bool.{false_from_ne_true}
use Rattle.std.proofs.lemmas.List.Elements.{All-head, All-tail}
use Rattle.std.proofs.lemmas.Option.{MatchOption-at_some}
use Rattle.std.proofs.lemmas.Slice.Eq.{bytes_eq-Decides}
use Rattle.pep_clause.proofs.SameVersions.{same_versions}
use Rattle.pep_clause.specs.VersionSet.{is_in}
use Rattle.specifiers.specs.Clause.{demanded}
use Rattle.pep_require.specs.Requirement.{IsAscending}
use Rattle.pep_require.proofs.Ascending.{Contains-from_IsIn, IsIn, IsIn-from_Contains}
use Rattle.pep_require.proofs.Ascending.{ascending_same, first_below, irreflexive, rest_ascends}
use Rattle.demands.proofs.Verdicts.{verdict_one}
use Rattle.demands.specs.Demand.{Demand, Demands, HaveSameDemands, clause, extra, url}
use Rattle.demands.specs.Table.{EntryDemands, EntryParts, IsEntry, IsTable}
use Rattle.demands.specs.Table.{IsValidEntry, Named, TableParts, entry_at, names}
use Rattle.pep_marker.specs.Environment.{EnvironmentParts}
use Rattle.pep_marker.specs.Header.{header}
use Rattle.pep_table.specs.TableText.{AreTableLines, IsTableText, entry_text}

-- a table's lines are one text
pub one_list_of_lines : (t : TableParts) (x y : List ℕ) → AreTableLines t x → AreTableLines t y → x ≡ y
one_list_of_lines [] x y h g = h ∙ sym g
one_list_of_lines (p ∷ t) x y h g =
    let verdict : h.0 ≡ g.0 = verdict_one (EntryDemands p.1) h.0 g.0 h.2 g.2 in
    let rest : h.1 ≡ g.1 = one_list_of_lines t h.1 g.1 h.3 g.3 in
    h.4 ∙ (λ i. entry_text p.0 (verdict i) p.1 ++ rest i) ∙ sym g.4

-- .. and so it has one text in an environment
pub one_text_in : (e : EnvironmentParts) (t : TableParts) (x y : List ℕ) → IsTableText e t x →
    IsTableText e t y → x ≡ y
one_text_in e t x y (ls, h, at) (ms, g, is) =
    at ∙ ap (λ z. header e ++ z) (one_list_of_lines t ls ms h g) ∙ sym is

-- ---- entries of the same demands are one

same_texts : (xs ys : List (List ℕ)) → IsAscending xs → IsAscending ys →
    ((x : List ℕ) → Contains xs x ↔ Contains ys x) → xs ≡ ys
same_texts xs ys up more same = ascending_same xs ys up more
    (λ x m. IsIn-from_Contains ys x ((same x).0 (Contains-from_IsIn xs x m)))
    (λ x m. IsIn-from_Contains xs x ((same x).1 (Contains-from_IsIn ys x m)))

through : {A B C D : Type 0} → A ↔ B → B ↔ C → D ↔ C → A ↔ D
through f g h = ((λ a. h.1 (g.0 (f.0 a))), λ d. f.1 (g.1 (h.0 d)))

one_answer_of : (a b : Bool) → (a ≡ true ↔ b ≡ true) → a ≡ b
one_answer_of true b h = sym (h.0 refl)
one_answer_of false true h = h.1 refl
one_answer_of false false h = refl

one_entry : (Q W : Demand → Type 0) (e f : EntryParts) → ((d : Demand) → Q d ↔ W d) →
    IsValidEntry e → IsValidEntry f → IsEntry Q e → IsEntry W f → e ≡ f
one_entry Q W e f same ve vf ie fi =
    let extras =
    same_texts e.extras f.extras ve.extras.0 vf.extras.0
    (λ x. through (ie.extras x) (same (extra x)) (fi.extras x)) in
    let urls =
    same_texts e.urls f.urls ve.urls.0 vf.urls.0 (λ u.
    through (ie.urls u) (same (url u)) (fi.urls u)) in
    let texts =
    same_texts e.texts f.texts ve.texts.0 vf.texts.0 (λ t.
    through (ie.texts t) (same (clause (demanded t))) (fi.texts t)) in
    let versions =
    same_versions e.versions f.versions ve.versions vf.versions
    (λ v is. one_answer_of (is_in e.versions v) (is_in f.versions v) (
      (λ m. let q = (ie.versions v is).0 m in (fi.versions v is).1 (λ d w. q d ((same d).1 w))),
      λ m. let w = (fi.versions v is).0 m in (ie.versions v is).1 (λ d q. w d ((same d).0 q)),
    )) in
    λ i. record { extras = extras i; urls = urls i; texts = texts i; versions = versions i }

-- ---- tables of the same entries are one

pub eq_true : (x y : List ℕ) → x ≡ y → bytes_eq x y ≡ true
eq_true x y e = (bytes_eq-Decides x y).1 e

pub eq_false : (x y : List ℕ) → (x ≡ y → ⊥) → bytes_eq x y ≡ false
eq_false x y differ =
    false_from_ne_true (bytes_eq x y) (λ e. differ ((bytes_eq-Decides x y).0 e))

-- the entry of the first name
pub entry_first : (p : Named) (t : TableParts) → entry_at (p ∷ t) p.0 ≡ Some p.1
entry_first p t = rw (eq_true p.0 p.0 refl) refl

-- the entry of another name
pub entry_other : (p : Named) (t : TableParts) (name : List ℕ) → (p.0 ≡ name → ⊥) →
    entry_at (p ∷ t) name ≡ entry_at t name
entry_other p t name differ = rw (eq_false p.0 name differ) refl

-- a name of the table has an entry there, and the other way round
pub entry_there : (t : TableParts) (name : List ℕ) → IsIn (names t) name → (e : EntryParts)
    × (entry_at t name ≡ Some e)
entry_there [] name h = absurd h
entry_there (p ∷ t) name h = by (bytes_eq p.0 name) refl h (λ m. entry_there t name m)
  where
    by : (b : Bool) → bytes_eq p.0 name ≡ b → IsIn (names (p ∷ t)) name →
        (IsIn (names t) name → (e : EntryParts) × (entry_at t name ≡ Some e)) → (e : EntryParts)
        × (entry_at (p ∷ t) name ≡ Some e)
    by true at m rest = (p.1, rw at refl)
    by false at (inl same) rest =
        let found : true ≡ false = sym (eq_true p.0 name (sym same)) ∙ at in cc found
    by false at (inr m) rest = let more = rest m in (more.0, rw at more.1)

pub name_there : (t : TableParts) (name : List ℕ) (e : EntryParts) → entry_at t name ≡ Some e →
    IsIn (names t) name
name_there [] name e h = cc h
name_there (p ∷ t) name e h = by (bytes_eq p.0 name) refl (name_there t name e)
  where
    by : (b : Bool) → bytes_eq p.0 name ≡ b → (entry_at t name ≡ Some e → IsIn (names t) name) →
        IsIn (names (p ∷ t)) name
    by true at rest = inl (sym ((bytes_eq-Decides p.0 name).0 at))
    by false at rest = inr (rest (rw at at h))

pub absent : (t : TableParts) (name : List ℕ) → (IsIn (names t) name → ⊥) → entry_at t name ≡ None
absent t name never = by (entry_at t name) refl
  where
    by : (o : Option EntryParts) → entry_at t name ≡ o → o ≡ None
    by None e = refl
    by (Some f) e = absurd (never (name_there t name f e))

-- the first name of rising names is none of the others
pub first_apart : (p : Named) (t : TableParts) (name : List ℕ) → IsAscending (names (p ∷ t)) →
    p.0 ≡ name → IsIn (names t) name → ⊥
first_apart p t name up e m =
    irreflexive p.0 (subst (λ (n : List ℕ). slice_cmp nat_cmp p.0 n
    ≡ Less) (sym e) (first_below p.0 (names t) name up m))

same_named : (t s : TableParts) → names t ≡ names s → IsAscending (names t) →
    IsAscending (names s) → ((name : List ℕ) → entry_at t name ≡ entry_at s name) → t ≡ s
same_named [] [] e up more same = refl
same_named [] (q ∷ s) e up more same = cc e
same_named (p ∷ t) [] e up more same = cc e
same_named (p ∷ t) (q ∷ s) e up more same =
    let first : p.0 ≡ q.0 = cc e in
    let others : names t ≡ names s = cc e in
    let found : Some p.1 ≡ Some q.1 =
    sym (entry_first p t) ∙ same p.0 ∙ ap (entry_at (q ∷ s)) first ∙ entry_first q s in
    let entry : p.1 ≡ q.1 = cc found in
    let rest =
    same_named t s others (rest_ascends p.0 (names t) up) (rest_ascends q.0 (names s) more)
    (λ name. tail name (bytes_eq p.0 name) refl first) in
    λ i. (first i, entry i) ∷ rest i
  where
    tail : (name : List ℕ) (b : Bool) → bytes_eq p.0 name ≡ b → p.0 ≡ q.0 →
        entry_at t name ≡ entry_at s name
    tail name true at first =
        let is : p.0 ≡ name = (bytes_eq-Decides p.0 name).0 at in
        absent t name (first_apart p t name up is)
        ∙ sym (absent s name (first_apart q s name more (sym first ∙ is)))
    tail name false at first =
        let differ : p.0 ≡ name → ⊥ =
        λ is. let both : true ≡ false = sym (eq_true p.0 name is) ∙ at in cc both in
        sym (entry_other p t name differ) ∙ same name
        ∙ entry_other q s name (λ is. differ (first ∙ is))

-- tables with the same entry at each name are one
pub one_table : (t s : TableParts) → IsAscending (names t) → IsAscending (names s) →
    ((name : List ℕ) → entry_at t name ≡ entry_at s name) → t ≡ s
one_table t s up more same = same_named t s
    (ascending_same (names t) (names s) up more
    (λ name m. let found = entry_there t name m in name_there s name found.0 (sym (same name)
    ∙ found.1))
    (λ name m. let found = entry_there s name m in name_there t name found.0 (same name ∙ found.1)))
    up more same

-- ---- tables of the same demands

pub valid_at : (t : TableParts) (name : List ℕ) (e : EntryParts) →
    All (λ (p : Named). IsValidEntry p.1) t → entry_at t name ≡ Some e → IsValidEntry e
valid_at [] name e h at = cc at
valid_at (p ∷ t) name e h at =
    by (bytes_eq p.0 name) refl (valid_at t name e (All-tail (λ q. IsValidEntry q.1) p t h))
  where
    by : (b : Bool) → bytes_eq p.0 name ≡ b → (entry_at t name ≡ Some e → IsValidEntry e) →
        IsValidEntry e
    by true is rest =
        let same : Some p.1 ≡ Some e = rw is at at in let one : p.1 ≡ e = cc same in
        subst IsValidEntry one (All-head (λ q. IsValidEntry q.1) p t h)
    by false is rest = rest (rw is at at)

is_some_of : (o : Option EntryParts) (e : EntryParts) → o ≡ Some e → IsSome o
is_some_of o e h = ap is_some h

same_entry_at : (Q W : Demands) (t s : TableParts) → HaveSameDemands Q W → IsTable Q t →
    IsTable W s → (name : List ℕ) → entry_at t name ≡ entry_at s name
same_entry_at Q W t s same h g name = by (entry_at t name) (entry_at s name) refl refl
  where
    by : (o r : Option EntryParts) → entry_at t name ≡ o → entry_at s name ≡ r → o ≡ r
    by None None e f = refl
    by (Some a) None e f =
        let q = (h.names name).0 (is_some_of (entry_at t name) a e) in
        let there : IsSome (entry_at s name) = (g.names name).1 (q.0, (same name q.0).0 q.1) in
        cc (subst IsSome f there)
    by None (Some b) e f =
        let q = (g.names name).0 (is_some_of (entry_at s name) b f) in
        let there : IsSome (entry_at t name) = (h.names name).1 (q.0, (same name q.0).1 q.1) in
        cc (subst IsSome e there)
    by (Some a) (Some b) e f =
        ap Some (one_entry (Q name) (W name) a b (same name) (valid_at t name a h.valid.entries e)
        (valid_at s name b g.valid.entries f)
        (MatchOption-at_some ⊤ (IsEntry (Q name)) a e (h.entries name))
        (MatchOption-at_some ⊤ (IsEntry (W name)) b f (g.entries name)))

-- the tables of the same demands are one table, and print one text
pub same_table_of : (Q W : Demands) (t s : TableParts) → HaveSameDemands Q W → IsTable Q t →
    IsTable W s → t ≡ s
same_table_of Q W t s same h g =
    one_table t s h.valid.names.0 g.valid.names.0 (same_entry_at Q W t s same h g)

pub one_text : (e : EnvironmentParts) (Q W : Demands) (t s : TableParts) (x y : List ℕ) →
    HaveSameDemands Q W → IsTable Q t → IsTable W s → IsTableText e t x → IsTableText e s y → x ≡ y
one_text e Q W t s x y same h g tx sy =
    one_text_in e s x y (subst (λ (u : TableParts). IsTableText e u x)
    (same_table_of Q W t s same h g) tx) sy
