-- THE CODE'S WAY, and no definition of what two sets have in common: range by range. The code finds
-- it by one sweep.
use Rattle.std.specs.Prelude.{◌≡◌, ◌⊎◌, ◌&&◌, Bool, false, List, [], ◌∷◌, ◌++◌, if◌then◌else◌}
use Rattle.std.specs.List.{list_all}
use Rattle.std.specs.Ordering.{is_ge, is_lt}
use Rattle.std.specs.declared.cmp.Ordering.{Ordering}
use Rattle.std.specs.declared.cmp.Ordering.TheVariants.{Less}
use Rattle.pep_clause.specs.Cut.{Cut, cut_cmp}
use Rattle.pep_clause.specs.OperatorTable.{range}
use Rattle.pep_clause.specs.VersionSet.{Range}

-- the later of two places, and the earlier
abbrev pub later : {K : Type 0} → (K → K → Ordering) → K → K → K
later R a b = if is_lt (R a b) then b else a

abbrev pub earlier : {K : Type 0} → (K → K → Ordering) → K → K → K
earlier R a b = if is_lt (R a b) then a else b

-- what two ranges have in common: one range or none
abbrev pub range_joined : Range → Range → List Range
range_joined r s = range (later cut_cmp r.low s.low) (earlier cut_cmp r.high s.high)

-- Two ranges are the same behind a place: they are one, or both begin below it and end together.
abbrev pub SameBehind : Cut → Range → Range → Type 0
SameBehind p r s =
    (s ≡ r)
    ⊎ ((s.high ≡ r.high) × (cut_cmp r.low p ≡ Less) × (cut_cmp s.low p ≡ Less))

-- what a range has in common with each of a list
abbrev pub row_joined : Range → List Range → List Range
row_joined r [] = []
row_joined r (s ∷ rest) = range_joined r s ++ row_joined r rest

-- what two lists have in common
abbrev pub joined : List Range → List Range → List Range
joined [] other_ranges = []
joined (r ∷ rest) other_ranges = row_joined r other_ranges ++ joined rest other_ranges

-- the range begins and ends inside the other
abbrev pub is_within : Range → Range → Bool
is_within r s = is_ge (cut_cmp r.low s.low) && is_ge (cut_cmp s.high r.high)

-- all the ranges lie in the other
abbrev pub all_within : List Range → Range → Bool
all_within ranges s = list_all (λ r. is_within r s) ranges

-- the other ranges are a single one, in which all the ranges lie
abbrev pub are_within : List Range → List Range → Bool
are_within ranges [] = false
are_within ranges (s ∷ []) = all_within ranges s
are_within ranges (s ∷ t ∷ rest) = false
