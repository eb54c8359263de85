-- Joining what two sources demand.
use Rattle.std.specs.Prelude.{◌≡◌, ℕ, ◌⊎◌, ◌↔◌, ◌&&◌, List, [], ◌∷◌, Contains, Option, Some, None}
use Rattle.pep_clause.specs.Cut.{Cut, IsCut}
use Rattle.pep_clause.specs.VersionSet.{Range, IsNormal, is_point}
use Rattle.pep_require.specs.Requirement.{IsAscending}
use Rattle.demands.specs.Table.{EntryParts, TableParts, IsValidTable, entry_at}

-- ---- the laws

-- Of the values that the predicate names, two have one join, whatever their order, their grouping
-- and their repeats.
pub record IsJoin {X : Type 0} (IsValue : X → Type 0) (Joins : X → X → X → Type 0) : Type 0 where
  pub one : (a b c d : X) → IsValue c → IsValue d → Joins a b c → Joins a b d → c ≡ d
  pub commutative : (a b c : X) → Joins a b c → Joins b a c
  pub associative : (a b c ab bc abc : X) → IsValue ab → IsValue bc → IsValue abc →
      Joins a b ab → Joins b c bc → Joins ab c abc → Joins a bc abc
  pub idempotent : (a : X) → IsValue a → Joins a a a

-- The value, joined with each item in turn. Where there is an item, all that are joined are values.
abbrev pub JoinsAll : {X : Type 0} → (X → Type 0) → (X → X → X → Type 0) → X → List X → X → Type 0
JoinsAll IsValue Joins a [] b = a ≡ b
JoinsAll {X} IsValue Joins a (x ∷ xs) b =
    (c : X) × IsValue c × Joins a x c × JoinsAll IsValue Joins c xs b × IsValue a × IsValue x

-- ---- the joins

-- the texts of both, each once, in byte order
pub record IsUnion (xs ys zs : List (List ℕ)) : Type 0 where
  pub ascending : IsAscending zs
  pub members : (x : List ℕ) → Contains zs x ↔ (Contains xs x ⊎ Contains ys x)

-- the ranges whose points are points of both
pub record IsIntersection (a b c : List Range) : Type 0 where
  pub normal : IsNormal c
  pub points : (cut : Cut) → IsCut cut → is_point c cut ≡ is_point a cut && is_point b cut

-- entries are joined field by field
pub record JoinsEntries (a b c : EntryParts) : Type 0 where
  pub extras : IsUnion a.extras b.extras c.extras
  pub urls : IsUnion a.urls b.urls c.urls
  pub texts : IsUnion a.texts b.texts c.texts
  pub versions : IsIntersection a.versions b.versions c.versions

-- an entry that one table has stays, and two entries of one name are joined
abbrev pub JoinsAt : Option EntryParts → Option EntryParts → Option EntryParts → Type 0
JoinsAt None None c = c ≡ None
JoinsAt (Some a) None c = c ≡ Some a
JoinsAt None (Some b) c = c ≡ Some b
JoinsAt (Some a) (Some b) None = ⊥
JoinsAt (Some a) (Some b) (Some c) = JoinsEntries a b c

-- tables are joined name by name
pub record JoinsTables (a b c : TableParts) : Type 0 where
  pub valid : IsValidTable c
  pub entries : (name : List ℕ) → JoinsAt (entry_at a name) (entry_at b name) (entry_at c name)
