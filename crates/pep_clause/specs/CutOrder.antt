-- What lies under one cut and under another.
use Rattle.std.specs.Prelude.{◌≡◌, IsTrue}
use Rattle.pep_version.specs.Version.{IsVersion, Version}
use Rattle.pep_clause.specs.Cut.{Cut, is_under}

-- the version lies under the cut
abbrev pub IsUnder : Cut → Version → Type 0
IsUnder c v = IsTrue (is_under c v)

-- every version under the first cut is under the second
abbrev pub LiesIn : Cut → Cut → Type 0
LiesIn c d = (v : Version) → IsVersion v → IsUnder c v → IsUnder d v

-- the same versions lie under both cuts
abbrev pub SameUnder : Cut → Cut → Type 0
SameUnder c d = (v : Version) → IsVersion v → is_under c v ≡ is_under d v

-- every version under the first cut is under the second, and some version is under the second alone
pub record LiesStrictlyIn (c d : Cut) : Type 0 where
  pub within : LiesIn c d
  pub more : (v : Version) × IsVersion v × IsUnder d v × (¬ IsUnder c v)
