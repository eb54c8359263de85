-- That each of some claims is needed, as points tell: the code's way.
use Rattle.std.specs.Prelude.{◌≡◌, ◌≢◌, ℕ, ◌<◌, ◌≤◌, true, false, List, [], length, All, Contains, slice_index_or}
use Rattle.std.specs.Ordering.{is_lt}
use Rattle.pep_version.specs.Version.{IsVersion, Version}
use Rattle.specifiers.specs.Admits.{Admits}
use Rattle.specifiers.specs.Clause.{Clause}
use Rattle.pep_clause.specs.Cut.{Cut, cut_cmp}
use Rattle.pep_clause.specs.OperatorTable.{set_of}
use Rattle.pep_clause.specs.VersionSet.{In, IsNormal, IsPoint, Range}
use Rattle.demands.specs.Demand.{AdmitsVersion, Demand}
use Rattle.demands.specs.Table.{EntryParts}
use Rattle.reasons.specs.Claims.{ClaimDemands, ClaimParts, PlacedParts}
use Rattle.reasons.specs.View.{nowhere}
use Rattle.reasons.specs.declared.apart.Point.{Point}

-- no point stands below one before it
abbrev pub AreRising : List Point → Type 0
AreRising points = (i j : ℕ) (d : Point) → i ≤ j → j < length points →
    is_lt (cut_cmp (slice_index_or points j d).cut (slice_index_or points i d).cut) ≡ false

-- the first so many points stand below the cut
abbrev pub AreBelow : List Point → ℕ → Cut → Type 0
AreBelow points n cut = (k : ℕ) (d : Point) → k < n →
    is_lt (cut_cmp (slice_index_or points k d).cut cut) ≡ true

-- of the points from one on, those of other claims do not stand below the cut
abbrev pub OwnsBelow : List Point → ℕ → Cut → ℕ → Type 0
OwnsBelow points from cut own = (k : ℕ) (d : Point) → from ≤ k → k < length points →
    (slice_index_or points k d).owner ≢ own → is_lt (cut_cmp (slice_index_or points k d).cut cut) ≡ false

-- .. there are none
abbrev pub OwnsBehind : List Point → ℕ → ℕ → Type 0
OwnsBehind points from own = (k : ℕ) (d : Point) → from ≤ k → k < length points →
    (slice_index_or points k d).owner ≡ own

-- the points of other claims lie in the ranges
abbrev pub HasOthers : List Range → List Point → ℕ → Type 0
HasOthers ranges points own = All (λ p. p.owner ≢ own → IsPoint ranges p.cut) points

-- one of the points is the claim's
abbrev pub HasOwn : List Point → ℕ → Type 0
HasOwn points own = (p : Point) × Contains points p × (p.owner ≡ own)

-- ---- claims

-- the clause demands no text, and the points of other claims lie in the ranges that it admits
pub record IsClauseApart (c : Clause) (points : List Point) (own : ℕ) : Type 0 where
  pub normal : IsNormal (set_of c)
  pub admits : (v : Version) → IsVersion v → In (set_of c) v → Admits c v
  pub others : HasOthers (set_of c) points own

-- .. and so do some clauses
pub record AreClausesApart (cs : List Clause) (points : List Point) (own : ℕ) : Type 0 where
  pub some : 0 < length cs
  pub each : (k : ℕ) (d : Clause) → k < length cs → IsClauseApart (slice_index_or cs k d) points own

-- .. and an entry
pub record IsEntryApart (e : EntryParts) (points : List Point) (own : ℕ) : Type 0 where
  pub bare : e.texts ≡ []
  pub normal : IsNormal e.versions
  pub others : HasOthers e.versions points own

-- the cut is a point of ranges whose versions meet all that the claim demands
pub record AdmitsAround (c : ClaimParts) (cut : Cut) : Type 0 where
  pub within : List Range
  pub normal : IsNormal within
  pub point : IsPoint within cut
  pub meets : (v : Version) → IsVersion v → In within v → (name : List ℕ) (d : Demand) → ClaimDemands c name d →
      AdmitsVersion d v

abbrev pub AdmitsOthers : ClaimParts → List Point → ℕ → Type 0
AdmitsOthers c points own = All (λ p. p.owner ≢ own → AdmitsAround c p.cut) points

-- one of the points is the claim's, and it admits those of the others
pub record IsApart (c : ClaimParts) (points : List Point) (own : ℕ) : Type 0 where
  pub has : HasOwn points own
  pub others : AdmitsOthers c points own

-- each of the first so many claims
abbrev pub AreApart : List PlacedParts → List Point → ℕ → Type 0
AreApart qs points n = (own : ℕ) → own < n → IsApart (slice_index_or qs own nowhere).claim points own
