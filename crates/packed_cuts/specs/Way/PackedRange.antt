-- Which clauses whose version is a release alone have a range between two packed cuts, by how the release is written: one of
-- more than four numbers, or with a number that is too large, is not looked at further. Nothing else rests on that.
-- And which packed cuts are told (`HoldsRelease`, `HoldsPrefix`).
use Rattle.std.specs.Prelude.{◌≡◌, ◌+◌, ◌<◌, ◌≤◌, ℕ, List, [], ◌∷◌, Some, None, Ok, IsOk, length}
use Rattle.pep_version.specs.Order.{with_suffixes}
use Rattle.specifiers.specs.Admits.{compatible_prefix}
use Rattle.specifiers.specs.Clause.{Clause, Prefix, prefix_clause, version_clause}
use Rattle.specifiers.specs.Operator.{begin_of, end_of, leaves_out}
use Rattle.specifiers.specs.declared.op.Begin.{Begin}
use Rattle.specifiers.specs.declared.op.Begin.TheVariants as begin
use Rattle.specifiers.specs.declared.op.End.{End}
use Rattle.specifiers.specs.declared.op.End.TheVariants as ends
use Rattle.specifiers.specs.declared.op.Op.{Op}
use Rattle.pep_clause.specs.OperatorTable.{set_of}
use Rattle.pep_clause.specs.Ends.{between}
use Rattle.pep_clause.specs.PackedCut.{AreShortNumbers, IsShortRelease, IsShortVersion, release_alone}
use Rattle.packed_cuts.specs.declared.packed_range.PackedRange.{PackedRange}

-- the release with its last number raised by one
abbrev pub raised_last : List ℕ → List ℕ
raised_last [] = []
raised_last (n ∷ []) = (n + 1) ∷ []
raised_last (n ∷ m ∷ rest) = n ∷ raised_last (m ∷ rest)

-- where a prefix ends
pub record PrefixEndsShort (p : Prefix) : Type 0 where
  pub epoch : p.epoch ≡ 0
  pub some : 0 < length p.release
  pub few : length p.release ≤ 4
  pub numbers : AreShortNumbers (raised_last p.release)

-- where the versions begin and end that an operator and a release speak of, as far as ranges of them are made here
abbrev pub BeginsShort : Begin → List ℕ → Type 0
BeginsShort begin.Least r = Unit {0}
BeginsShort begin.Version r = IsShortVersion (release_alone r)
BeginsShort begin.Greater r = IsShortRelease 0 r

abbrev pub EndsShort : End → List ℕ → Type 0
EndsShort ends.Version r = IsShortVersion (with_suffixes (release_alone r) None (Some 0) (Some 0))
EndsShort ends.Matching r = IsShortVersion (with_suffixes (release_alone r) None (Some 0) (Some 0))
EndsShort ends.Less r = IsShortVersion (with_suffixes (release_alone r) None None (Some 0))
EndsShort ends.Prefix r = PrefixEndsShort (compatible_prefix (release_alone r))
EndsShort ends.All r = Unit {0}

abbrev pub HasPrefixEnds : Prefix → Type 0
HasPrefixEnds p = IsShortRelease p.epoch p.release × PrefixEndsShort p

-- what lies between the packed cuts, or with `!=` what lies outside of them, is what the clause admits
abbrev pub IsBetween : Op → PackedRange → Clause → Type 0
IsBetween o b c = between (leaves_out o) b.low b.high ≡ set_of c

-- ---- clauses whose version is a release alone

-- the operator and this version make such a clause
pub record HoldsRelease (o : Op) (r : List ℕ) (b : PackedRange) : Type 0 where
  pub clause : Clause
  pub made : version_clause o (release_alone r) ≡ Ok clause
  pub between : IsBetween o b clause

abbrev pub release_prefix : List ℕ → Prefix
release_prefix r = record { epoch = 0; release = r }

-- the operator and this prefix make such a clause
pub record HoldsPrefix (o : Op) (r : List ℕ) (b : PackedRange) : Type 0 where
  pub clause : Clause
  pub made : prefix_clause o (release_prefix r) ≡ Ok clause
  pub between : IsBetween o b clause

-- which operators and releases make a clause that has a range
abbrev pub ReleaseHasRange : Op → List ℕ → Type 0
ReleaseHasRange o r =
    IsOk (version_clause o (release_alone r)) × BeginsShort (begin_of o) r × EndsShort (end_of o) r

abbrev pub PrefixHasRange : Op → List ℕ → Type 0
PrefixHasRange o r =
    IsOk (prefix_clause o (release_prefix r)) × HasPrefixEnds (release_prefix r)
