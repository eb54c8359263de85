-- The loop over ranges that asks whether each begins above the end of the one before.
use Rattle.std.proofs.Common.{◌≡◌, ◌↔◌, ◌∙◌, ◌++◌, ℕ, ◌+◌, ◌<◌, List, [], ◌∷◌, Option, Some, None}
use Rattle.std.proofs.Common.{add-one, ap, drop, drop-cons, get_or, length, sym}
use Rattle.std.specs.Prelude.{option_to_list}
use Rattle.std.specs.List.{AllByRecursion}
use Rattle.std.specs.declared.cmp.Ordering.TheVariants.{Less}
use Rattle.pep_clause.specs.Cut.{Cut, IsCut, cut_cmp}
use Rattle.pep_clause.specs.VersionSet.{IsIncreasing, Range, cuts}

-- the cuts, behind the one where the ranges before them end
abbrev pub cuts_from : Option Cut → List Range → List Cut
cuts_from last ranges = option_to_list last ++ cuts ranges

-- the cut lies above the end of the ranges before it
abbrev pub IsBehind : Option Cut → Cut → Type 0
IsBehind last low = IsIncreasing (option_to_list last ++ low ∷ [])

-- the ranges are increasing exactly if the rest goes on so, and the rest is all that is to be
-- looked at
pub record SoFar (ranges : List Range) (last : Option Cut) (rest : List Range) : Type 0 where
  pub goes_on : IsIncreasing (cuts ranges) ↔ IsIncreasing (cuts_from last rest)
  pub spelled : AllByRecursion IsCut (cuts rest) → AllByRecursion IsCut (cuts ranges)

module _ (ranges : List Range) (last : Option Cut) (r : Range) (rest : List Range)
    (s : SoFar ranges last (r ∷ rest)) where
  pub one_more : IsBehind last r.low → cut_cmp r.low r.high ≡ Less → IsCut r.low → IsCut r.high →
      SoFar ranges (Some r.high) rest
  one_more behind less low high = record {
    goes_on = (
      λ h. (split last (s.goes_on.0 h)).1,
      λ h. s.goes_on.1 (joined last behind h),
    );
    spelled = λ h. s.spelled (low, (high, h));
  }
    where
      split : (o : Option Cut) → IsIncreasing (cuts_from o (r ∷ rest)) →
          IsBehind o r.low × IsIncreasing (r.high ∷ cuts rest)
      split None h = (tt, h.1)
      split (Some c) h = ((h.0, tt), h.1.1)

      joined : (o : Option Cut) → IsBehind o r.low → IsIncreasing (r.high ∷ cuts rest) →
          IsIncreasing (cuts_from o (r ∷ rest))
      joined None b h = (less, h)
      joined (Some c) b h = (b.0, (less, h))

-- what is left behind a range that is looked at
pub range_more : (ranges : List Range) (i : ℕ) (r : Range) → i < length ranges →
    r ≡ get_or ranges i r → drop i ranges ≡ r ∷ drop (i + 1) ranges
range_more ranges i r within is =
    let left : drop i ranges ≡ get_or ranges i r ∷ drop (i + 1) ranges =
    rw (add-one i) (drop-cons ranges i r within) in
    left ∙ ap (λ q. q ∷ drop (i + 1) ranges) (sym is)
