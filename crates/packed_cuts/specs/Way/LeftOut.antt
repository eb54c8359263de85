-- What is left of all versions where those between two packed cuts are left out, part by part. How parts are kept, as single packed cuts
-- or as two, is told from `single` on: no public clause names that.
use Rattle.std.specs.Prelude.{◌≡◌, ◌+◌, ◌++◌, ◌<◌, ◌≤◌, ◌&&◌, ◌||◌, ℕ, All, Bool, false, not, List, [], ◌∷◌, get_or, length, map}
use Rattle.std.specs.List.{list_any}
use Rattle.std.specs.Ordering.{is_lt}
use Rattle.std.specs.declared.cmp.Ordering.TheVariants.{Less}
use Rattle.pep_clause.specs.Cut.{Cut, IsCut, cut_cmp}
use Rattle.pep_clause.specs.Way.Joined.{joined}
use Rattle.pep_clause.specs.OperatorTable.{outside}
use Rattle.pep_clause.specs.VersionSet.{Range, all_versions}
use Rattle.pep_clause.specs.PackedCut.{IsPackedCut, packed_word, right_behind}
use Rattle.packed_cuts.specs.declared.packed_range.PackedRange.{PackedRange}

-- what is left over of all versions
abbrev pub left_over : List PackedRange → List Range
left_over [] = all_versions
left_over (b ∷ rest) = joined (outside b.low b.high) (left_over rest)

-- whether a cut lies below the high one, and not below the low one
abbrev pub lies_between : Cut → Cut → Cut → Bool
lies_between low high c = is_lt (cut_cmp c high) && not (is_lt (cut_cmp c low))

-- .. between the packed cuts of some part
abbrev pub is_left_out : List PackedRange → Cut → Bool
is_left_out parts c = list_any (λ b. lies_between b.low b.high c) parts

-- the second packed cut stands above the first, and both are cuts in their one spelling
pub record IsPart (b : PackedRange) : Type 0 where
  pub in_order : cut_cmp b.low b.high ≡ Less
  pub low : IsCut b.low
  pub high : IsCut b.high

-- whether the second, which begins no earlier, begins in the first or at its end
abbrev pub meets : PackedRange → PackedRange → Bool
meets a b = not (is_lt (cut_cmp b.low a.low)) && not (is_lt (cut_cmp a.high b.low))

-- ---- how parts are kept

-- the versions between a packed cut and the one right behind it, as `!=` and a version leave out
abbrev pub single : Cut → PackedRange
single c = record { low = c; high = right_behind c }

-- .. which is a packed cut
pub record IsSingle (c : Cut) : Type 0 where
  pub part : IsPart (single c)
  pub behind : IsPackedCut (packed_word c + 1)

-- the parts that single packed cuts and two packed cuts tell
abbrev pub all_parts : List Cut → List PackedRange → List PackedRange
all_parts singles parts = map single singles ++ parts

abbrev pub itself : Cut → Cut
itself c = c

abbrev pub low_of : PackedRange → Cut
low_of b = b.low

-- no element begins above one that stands before it in the list
abbrev pub IsFalling : {X : Type 0} → (X → Cut) → List X → Type 0
IsFalling {X} begin xs = (i j : ℕ) (d : X) → i ≤ j → j < length xs →
    is_lt (cut_cmp (begin (get_or xs i d)) (begin (get_or xs j d))) ≡ false

-- both lists fall, and have parts
pub record AreFalling (singles : List Cut) (parts : List PackedRange) : Type 0 where
  pub singles_fall : IsFalling itself singles
  pub parts_fall : IsFalling low_of parts
  pub singles_are : All IsSingle singles
  pub parts_are : All IsPart parts

-- a part is taken away from both lists, and none of the others begins below it
pub record TakesFirst (singles : List Cut) (parts : List PackedRange) (others : List Cut) (rest : List PackedRange) (b : PackedRange) : Type 0 where
  pub points : (c : Cut) → is_left_out (all_parts singles parts) c
      ≡ (is_left_out (all_parts others rest) c || lies_between b.low b.high c)
  pub part : IsPart b
  pub first : All (λ p. is_lt (cut_cmp p.low b.low) ≡ false) (all_parts others rest)
  pub left : AreFalling others rest
  pub fewer : length others + length rest < length singles + length parts
