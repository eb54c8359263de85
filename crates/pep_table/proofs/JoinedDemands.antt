-- The join of the tables of two sets of demands is the table of the demands of both, and a table is
-- the table of its own demands.
use Rattle.std.proofs.Common.{◌≡◌, ℕ, ◌&&◌, List, refl, sym, subst, ◌∙◌, inl, inr, ◌⊎◌}
use Rattle.std.proofs.Common.{Option, Some, None}
use Rattle.std.proofs.Math.Logic.{⊎_map}
use Rattle.std.proofs.lemmas.Option.{IfSome_then}
use Rattle.std.specs.Prelude.{◌↔◌, IfSome, IsSome}
use Rattle.texts.proofs.Connectives.{and_from, and_parts}
use Rattle.pep_version.proofs.PlaceLemmas.{place-of-place, place-version}
use Rattle.pep_version.specs.Order.{place_of}
use Rattle.pep_version.specs.Version.{IsVersion, Version}
use Rattle.pep_clause.proofs.LeastCut.{point-all_versions}
use Rattle.pep_clause.proofs.SetLemmas.{is_in-place_of}
use Rattle.pep_clause.proofs.UnderCut.{is_in-is_point}
use Rattle.specifiers.specs.Clause.{demanded}
use Rattle.pep_clause.specs.Cut.{Cut, IsCut, before}
use Rattle.pep_clause.specs.VersionSet.{IsNormal, IsPoint, Range, all_versions, is_in, is_point}
use Rattle.pep_table.proofs.AdmittedPoints.{admitted_point, every_point, point_admitted}
use Rattle.pep_table.specs.OneText.{valid_at}
use Rattle.pep_table.specs.TableLaws.{right_kept}
use Rattle.demands.proofs.OwnEntry.{own_entry}
use Rattle.demands.specs.Demand.{AdmitsBesideTexts, Demand, Demands, Together, presence, extra}
use Rattle.demands.specs.Demand.{url, clause, ranges}
use Rattle.demands.specs.Join.{IsIntersection, JoinsAt, JoinsEntries, JoinsTables}
use Rattle.demands.specs.Table.{AdmitsPoint, EntryDemands, EntryParts, HasExactPoints, IsEntry}
use Rattle.demands.specs.Table.{IsTable, IsValidEntry, IsValidTable, TableDemands, TableParts, entry_at}

-- ---- what a table says of one name

abbrev pub ExactEntry : (Demand → Type 0) → EntryParts → Type 0
ExactEntry Q e =
    (cut : Cut) → IsCut cut → IsPoint e.versions cut ↔ (IsPoint all_versions cut
    × ((d : Demand) → Q d → AdmitsPoint d cut))

-- there is an entry exactly if there is a demand, and it is the entry of the demands
pub record HasEntry (Q : Demand → Type 0) (o : Option EntryParts) : Type 0 where
  pub named : IsSome o ↔ ((d : Demand) × Q d)
  pub entry : IfSome o (IsEntry Q)
  pub points : IfSome o (ExactEntry Q)

-- ---- the same for demands that are the same

turn : {A B C : Type 0} → A ↔ B → B ↔ C → A ↔ C
turn f g = ((λ a. g.0 (f.0 a)), λ c. f.1 (g.1 c))

pub same_entry : (Q W : Demand → Type 0) (e : EntryParts) → ((d : Demand) → Q d ↔ W d) →
    IsEntry Q e → IsEntry W e
same_entry Q W e same h = record {
  extras = λ x. turn (h.extras x) (same (extra x));
  urls = λ u. turn (h.urls u) (same (url u));
  texts = λ t. turn (h.texts t) (same (clause (demanded t)));
  versions = λ v is. (
    λ m d w. (h.versions v is).0 m d ((same d).1 w),
    λ f. (h.versions v is).1 (λ d q. f d ((same d).0 q)),
  );
}

pub same_exact : (Q W : Demand → Type 0) (e : EntryParts) → ((d : Demand) → Q d ↔ W d) →
    ExactEntry Q e → ExactEntry W e
same_exact Q W e same h = λ cut is. (
  λ m. let both = (h cut is).0 m in (both.0, λ d w. both.1 d ((same d).1 w)),
  λ f. (h cut is).1 (f.0, λ d q. f.1 d ((same d).0 q)),
)

same_named : (Q W : Demand → Type 0) (o : Option EntryParts) → ((d : Demand) → Q d ↔ W d) →
    (IsSome o ↔ ((d : Demand) × Q d)) → IsSome o ↔ ((d : Demand) × W d)
same_named Q W o same h = (
  λ s. let q = h.0 s in (q.0, (same q.0).0 q.1),
  λ w. h.1 (w.0, (same w.0).1 w.1),
)

pub same_at : (Q W : Demand → Type 0) (o : Option EntryParts) → ((d : Demand) → Q d ↔ W d) →
    HasEntry Q o → HasEntry W o
same_at Q W o same h = record {
  named = same_named Q W o same h.named;
  entry = IfSome_then o h.entry (λ e. same_entry Q W e same);
  points = IfSome_then o h.points (λ e. same_exact Q W e same);
}

-- ---- joined entries

pub either : {A B C D E : Type 0} → E ↔ (A ⊎ B) → A ↔ C → B ↔ D → E ↔ (C ⊎ D)
either h f g = ((λ e. ⊎_map f.0 g.0 (h.0 e)), λ s. h.1 (⊎_map f.1 g.1 s))

-- what all demands of both give
pub from_both : (Q W P : Demand → Type 0) → ((d : Demand) → Q d → P d) →
    ((d : Demand) → W d → P d) → (d : Demand) → Q d ⊎ W d → P d
from_both Q W P f g d (inl q) = f d q
from_both Q W P f g d (inr w) = g d w

pub at_place : (l : List Range) (v : Version) → is_in l v ≡ is_point l (before (place_of v))
at_place l v = sym (is_in-place_of l v) ∙ is_in-is_point l (place_of v)

-- the versions of an intersection are those of both
is_in-intersection : (a b c : List Range) (v : Version) → IsVersion v → IsIntersection a b c →
    is_in c v ≡ (is_in a v && is_in b v)
is_in-intersection a b c v is h =
    at_place c v ∙ h.points (before (place_of v)) (place-version v is, place-of-place v)
    ∙ (λ i. sym (at_place a v) i && sym (at_place b v) i)

pub joined_entry : (Q W : Demand → Type 0) (a b c : EntryParts) → IsEntry Q a → IsEntry W b →
    JoinsEntries a b c → IsEntry (λ d. Q d ⊎ W d) c
joined_entry Q W a b c h g j = record {
  extras = λ x. either (j.extras.members x) (h.extras x) (g.extras x);
  urls = λ u. either (j.urls.members u) (h.urls u) (g.urls u);
  texts = λ t. either (j.texts.members t) (h.texts t) (g.texts t);
  versions = λ v is.
      let both = is_in-intersection a.versions b.versions c.versions v is j.versions in (
        λ m. let parts = and_parts (is_in a.versions v) (is_in b.versions v) (sym both ∙ m) in
            from_both Q W (λ d. AdmitsBesideTexts d v) ((h.versions v is).0 parts.0)
            ((g.versions v is).0 parts.1),
        λ f. both ∙ and_from (is_in a.versions v) (is_in b.versions v)
            ((h.versions v is).1 (λ d q. f d (inl q)))
            ((g.versions v is).1 (λ d w. f d (inr w))),
      );
}

joined_points : (Q W : Demand → Type 0) (a b c : EntryParts) → ExactEntry Q a → ExactEntry W b →
    JoinsEntries a b c → ExactEntry (λ d. Q d ⊎ W d) c
joined_points Q W a b c h g j = λ cut is.
    let both = j.versions.points cut is in (
      λ m. let parts =
          and_parts (is_point a.versions cut) (is_point b.versions cut) (sym both ∙ m) in
          let first = (h cut is).0 parts.0 in
          let second = (g cut is).0 parts.1 in
          (first.0, from_both Q W (λ d. AdmitsPoint d cut) first.1 second.1),
      λ f. both ∙ and_from (is_point a.versions cut) (is_point b.versions cut)
          ((h cut is).1 (f.0, λ d q. f.1 d (inl q)))
          ((g cut is).1 (f.0, λ d w. f.1 d (inr w))),
    )

-- ---- joined tables at one name

-- there is an entry exactly if there is a demand
abbrev pub IsNamed : (Demand → Type 0) → Option EntryParts → Type 0
IsNamed Q o = IsSome o ↔ ((d : Demand) × Q d)

pub undemanded : (Q : Demand → Type 0) → IsNamed Q None → (d : Demand) → Q d → ⊥
undemanded Q h d q = cc (h.1 (d, q))

left_same : (Q W : Demand → Type 0) → IsNamed W None → (d : Demand) → Q d ↔ (Q d ⊎ W d)
left_same Q W g d = ((λ q. inl q), back)
  where
    back : Q d ⊎ W d → Q d
    back (inl q) = q
    back (inr w) = absurd (undemanded W g d w)

right_same : (Q W : Demand → Type 0) → IsNamed Q None → (d : Demand) → W d ↔ (Q d ⊎ W d)
right_same Q W h d = ((λ w. inr w), back)
  where
    back : Q d ⊎ W d → W d
    back (inl q) = absurd (undemanded Q h d q)
    back (inr w) = w

joined_named : (Q W : Demand → Type 0) (o p r : Option EntryParts) → IsNamed Q o → IsNamed W p →
    JoinsAt o p r → IsNamed (λ d. Q d ⊎ W d) r
joined_named Q W None p r h g j =
    subst (IsNamed (λ d. Q d ⊎ W d)) (sym (right_kept p r j))
    (same_named W (λ d. Q d ⊎ W d) p (right_same Q W h) g)
joined_named Q W (Some a) None r h g j =
    subst (IsNamed (λ d. Q d ⊎ W d)) (sym j)
    (same_named Q (λ d. Q d ⊎ W d) (Some a) (left_same Q W g) h)
joined_named Q W (Some a) (Some b) None h g j = absurd j
joined_named Q W (Some a) (Some b) (Some c) h g j =
    ((λ s. let q = h.0 refl in (q.0, inl q.1)), λ q. refl)

-- what is said of an entry by its demands is said of joined entries by the demands of both
record IsJoined (P : (Demand → Type 0) → EntryParts → Type 0) : Type 1 where
  same : (Q W : Demand → Type 0) (e : EntryParts) → ((d : Demand) → Q d ↔ W d) → P Q e → P W e
  both : (Q W : Demand → Type 0) (a b c : EntryParts) → P Q a → P W b → JoinsEntries a b c →
      P (λ d. Q d ⊎ W d) c

joined_at : (P : (Demand → Type 0) → EntryParts → Type 0) → IsJoined P →
    (Q W : Demand → Type 0) (o p r : Option EntryParts) → IsNamed Q o → IsNamed W p →
    IfSome o (P Q) → IfSome p (P W) → JoinsAt o p r → IfSome r (P (λ d. Q d ⊎ W d))
joined_at P k Q W None p r n m h g j =
    subst (λ (o : Option EntryParts). IfSome o (P (λ d. Q d ⊎ W d))) (sym (right_kept p r j))
    (IfSome_then p g (λ e. k.same W (λ d. Q d ⊎ W d) e (right_same Q W n)))
joined_at P k Q W (Some a) None r n m h g j =
    subst (λ (o : Option EntryParts). IfSome o (P (λ d. Q d ⊎ W d))) (sym j)
    (k.same Q (λ d. Q d ⊎ W d) a (left_same Q W m) h)
joined_at P k Q W (Some a) (Some b) None n m h g j = absurd j
joined_at P k Q W (Some a) (Some b) (Some c) n m h g j = k.both Q W a b c h g j

-- the join of the tables of two sets of demands is the table of both
pub joined_table : (Q W : Demands) (s t r : TableParts) → IsTable Q s → IsTable W t →
    JoinsTables s t r → IsTable (Together Q W) r
joined_table Q W s t r h g j = record {
  valid = j.valid;
  names = λ name. joined_named (Q name) (W name) (entry_at s name) (entry_at t name)
      (entry_at r name) (h.names name) (g.names name) (j.entries name);
  entries = λ name. joined_at IsEntry (record { same = same_entry; both = joined_entry }) (Q name)
      (W name) (entry_at s name) (entry_at t name) (entry_at r name) (h.names name) (g.names name)
      (h.entries name) (g.entries name) (j.entries name);
}

-- .. and has the points that both have
pub joined_has_points : (Q W : Demands) (s t r : TableParts) → IsTable Q s → HasExactPoints Q s →
    IsTable W t → HasExactPoints W t → JoinsTables s t r → HasExactPoints (Together Q W) r
joined_has_points Q W s t r h hp g gp j = λ name.
    joined_at ExactEntry (record { same = same_exact; both = joined_points }) (Q name) (W name)
    (entry_at s name) (entry_at t name) (entry_at r name) (h.names name) (g.names name) (hp name)
    (gp name) (j.entries name)

pub joined_is_table : (Q W : Demands) (s t r : TableParts) → IsTable Q s → HasExactPoints Q s →
    IsTable W t → HasExactPoints W t → JoinsTables s t r →
    IsTable (Together Q W) r × HasExactPoints (Together Q W) r
joined_is_table Q W s t r h hp g gp j =
    (joined_table Q W s t r h g j, joined_has_points Q W s t r h hp g gp j)

pub table_at : (Q : Demands) (t : TableParts) (name : List ℕ) → IsTable Q t → HasExactPoints Q t →
    HasEntry (Q name) (entry_at t name)
table_at Q t name h g =
    record { named = h.names name; entry = h.entries name; points = g name }

-- ---- a table's own demands

own_point : (e : EntryParts) (cut : Cut) → IsNormal e.versions → IsPoint all_versions cut →
    IsPoint e.versions cut → (d : Demand) → EntryDemands e d → AdmitsPoint d cut
own_point e cut normal all m (clause (demanded t)) q = every_point (clause (demanded t)) cut all (λ v. tt)
own_point e cut normal all m (clause c) q = absurd q
own_point e cut normal all m (ranges l) q =
    subst (λ (k : List Range). AdmitsPoint (ranges k) cut) q
    (point_admitted (ranges e.versions) e.versions cut normal m (λ v is k. k))
own_point e cut normal all m presence q = every_point presence cut all (λ v. tt)
own_point e cut normal all m (extra x) q = every_point (extra x) cut all (λ v. tt)
own_point e cut normal all m (url u) q = every_point (url u) cut all (λ v. tt)

own_points : (e : EntryParts) → IsNormal e.versions → ExactEntry (EntryDemands e) e
own_points e normal = λ cut is. (
  λ m. let all = point-all_versions e.versions cut m in (all, own_point e cut normal all m),
  λ f. admitted_point (ranges e.versions) e.versions cut normal is (λ v k m. m) (f.1 (ranges e.versions) refl),
)

abbrev OwnDemands : Option EntryParts → Demand → Type 0
OwnDemands o d = (e : EntryParts) × (o ≡ Some e) × EntryDemands e d

own_at : (o : Option EntryParts) → ((e : EntryParts) → o ≡ Some e → IsValidEntry e) → HasEntry (OwnDemands o) o
own_at None valid = record {
  named = ((λ s. cc s), λ q. cc q.1.1);
  entry = tt;
  points = tt;
}
own_at (Some e) valid =
    same_at (EntryDemands e) (OwnDemands (Some e)) (Some e) (λ d. (λ q. (e, refl, q), back d))
    (record {
      named = ((λ s. (presence, tt)), λ q. refl);
      entry = own_entry e;
      points = own_points e (valid e refl).versions;
    })
  where
    back : (d : Demand) → OwnDemands (Some e) d → EntryDemands e d
    back d q =
        let one : q.0 ≡ e = cc q.1 in subst (λ (f : EntryParts). EntryDemands f d) one q.2

-- a valid table is the table of its own demands
pub own_table : (t : TableParts) → IsValidTable t →
    IsTable (TableDemands t) t × HasExactPoints (TableDemands t) t
own_table t valid = (
  record {
    valid = valid;
    names = λ name. (own name).named;
    entries = λ name. (own name).entry;
  },
  λ name. (own name).points,
)
  where
    own : (name : List ℕ) → HasEntry (OwnDemands (entry_at t name)) (entry_at t name)
    own name = own_at (entry_at t name) (λ e at. valid_at t name e valid.entries at)
