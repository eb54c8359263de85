-- Equality of ranges, by their cuts, and of sets of versions, range by range.
use Rattle.std.specs.Prelude.{◌≡◌, Bool, List}
use Rattle.std.specs.Cmp.{IsEquivalence, and_equiv, eq_by_cmp_equiv, on_equiv}
use Rattle.std.specs.Cmp.Lexicographic.{lists_equiv, pointwise}
use Rattle.std.specs.Ordering.{eq_by_cmp, eq_of_both, on}
use Rattle.pep_version.specs.Version.{IsVersion, Version}
use Rattle.pep_clause.specs.Cut.{Cut, IsCut, cut_cmp}
use Rattle.pep_clause.specs.Laws.{cut_total}
use Rattle.pep_clause.specs.VersionSet.{Range, is_in, is_point}

abbrev pub same_range : Range → Range → Bool
same_range = eq_of_both (on (λ r. r.low) (eq_by_cmp cut_cmp)) (on (λ r. r.high) (eq_by_cmp cut_cmp))

abbrev pub same_ranges : List Range → List Range → Bool
same_ranges = pointwise same_range

pub same_range-equiv : IsEquivalence same_range
same_range-equiv =
    and_equiv (on_equiv (λ (r : Range). r.low) (eq_by_cmp_equiv cut_total))
    (on_equiv (λ (r : Range). r.high) (eq_by_cmp_equiv cut_total))

pub same_ranges-equiv : IsEquivalence same_ranges
same_ranges-equiv = lists_equiv same_range-equiv

-- the two sets hold the same versions
abbrev pub SameVersions : List Range → List Range → Type 0
SameVersions ranges other_ranges = (v : Version) → IsVersion v → is_in ranges v ≡ is_in other_ranges v

-- the two lists have the same points
abbrev pub SamePoints : List Range → List Range → Type 0
SamePoints ranges other_ranges = (c : Cut) → IsCut c → is_point ranges c ≡ is_point other_ranges c
