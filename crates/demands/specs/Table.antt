-- The table of a set of demands: what is demanded of each package, by its name.
use Rattle.std.specs.Prelude.{◌≡◌, ℕ, ◌↔◌, ⊤, Bool, true, false, ◌&&◌, nat_lt, IsTrue, List, length, map, All}
use Rattle.std.specs.Prelude.{Contains, bytes_eq, find, Option, Some, option_map, IsSome, IfSome}
use Rattle.std.specs.List.{list_all}
use Rattle.std.specs.declared.cmp.Ordering.TheVariants.{Less}
use Rattle.pep_version.specs.Version.{Version, IsVersion}
use Rattle.specifiers.specs.Clause.{demanded, is_demanded_text}
use Rattle.pep_clause.specs.Cut.{Cut, IsCut, cut_cmp, is_under}
use Rattle.pep_clause.specs.VersionSet.{Range, In, IsNormal, IsPoint, all_versions}
use Rattle.pep_marker.specs.Name.{IsNormalName}
use Rattle.pep_require.specs.Reads.{is_url_byte}
use Rattle.pep_require.specs.Requirement.{IsAscending}
use Rattle.demands.specs.Demand.{Demand, Demands, presence, extra, url, clause, ranges}
use Rattle.demands.specs.Demand.{AdmitsBesideTexts}

-- what is demanded of one package: extras, texts of URLs, texts that `===` demands, and the ranges
-- of versions
pub record EntryParts : Type 0 where
  pub extras : List (List ℕ)
  pub urls : List (List ℕ)
  pub texts : List (List ℕ)
  pub versions : List Range

-- a table: names, each with its entry, in byte order
abbrev pub TableParts : Type 0
TableParts = List (List ℕ × EntryParts)

-- a name with an entry
abbrev pub Named : Type 0
Named = List ℕ × EntryParts

abbrev pub names : TableParts → List (List ℕ)
names t = map (λ p. p.0) t

-- the entry of a name
abbrev pub entry_at : TableParts → List ℕ → Option EntryParts
entry_at t name = option_map (λ p. p.1) (find (λ p. bytes_eq p.0 name) t)

-- ---- what a table may hold

-- the printed text of a URL: one byte or more, from 21 to 7E (hex)
abbrev pub is_url_text : List ℕ → Bool
is_url_text x = nat_lt 0 (length x) && list_all is_url_byte x

-- each kind of text stands in byte order, and the ranges are a normal list
pub record IsValidEntry (e : EntryParts) : Type 0 where
  pub extras : IsAscending e.extras × All IsNormalName e.extras
  pub urls : IsAscending e.urls × All (λ u. IsTrue (is_url_text u)) e.urls
  pub texts : IsAscending e.texts × All (λ t. IsTrue (is_demanded_text t)) e.texts
  pub versions : IsNormal e.versions

-- the names stand in byte order, in their normalized form
pub record IsValidTable (t : TableParts) : Type 0 where
  pub names : IsAscending (names t) × All IsNormalName (names t)
  pub entries : All (λ p. IsValidEntry p.1) t

-- ---- the table of a set of demands

-- what the demands on one name come to
pub record IsEntry (Q : Demand → Type 0) (e : EntryParts) : Type 0 where
  pub extras : (x : List ℕ) → Contains e.extras x ↔ Q (extra x)
  pub urls : (u : List ℕ) → Contains e.urls u ↔ Q (url u)
  pub texts : (t : List ℕ) → Contains e.texts t ↔ Q (clause (demanded t))
  pub versions : (v : Version) → IsVersion v → In e.versions v
      ↔ ((d : Demand) → Q d → AdmitsBesideTexts d v)

-- the table has an entry for each name that has a demand, and no other
pub record IsTable (Q : Demands) (t : TableParts) : Type 0 where
  pub valid : IsValidTable t
  pub names : (name : List ℕ) → IsSome (entry_at t name) ↔ ((d : Demand) × Q name d)
  pub entries : (name : List ℕ) → IfSome (entry_at t name) (IsEntry (Q name))

-- ---- the same by cuts

-- the cut is a point of what the demand admits: all versions from this cut up to some cut above it
abbrev pub AdmitsPoint : Demand → Cut → Type 0
AdmitsPoint d cut = (high : Cut) × IsCut high × (cut_cmp cut high ≡ Less)
    × ((v : Version) → IsVersion v → is_under cut v ≡ false → is_under high v ≡ true → AdmitsBesideTexts d v)

-- Each entry has just the points that all its demands have. Two tables of one set with this are
-- equal.
abbrev pub HasExactPoints : Demands → TableParts → Type 0
HasExactPoints Q t = (name : List ℕ) → IfSome (entry_at t name) (λ e. (cut : Cut) → IsCut cut →
    IsPoint e.versions cut ↔ (IsPoint all_versions cut
    × ((d : Demand) → Q name d → AdmitsPoint d cut)))

-- ---- the demands that a table gives

abbrev pub EntryDemands : EntryParts → Demand → Type 0
EntryDemands e presence = ⊤
EntryDemands e (extra x) = Contains e.extras x
EntryDemands e (url u) = Contains e.urls u
EntryDemands e (clause (demanded t)) = Contains e.texts t
EntryDemands e (clause c) = ⊥
EntryDemands e (ranges l) = e.versions ≡ l

-- its names, and of each the extras, the URL texts, the demanded texts, and the ranges as one list
abbrev pub TableDemands : TableParts → Demands
TableDemands t name d = (e : EntryParts) × (entry_at t name ≡ Some e) × EntryDemands e d
