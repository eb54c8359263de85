-- Normal lists, range by range: no range is empty, and each range ends below the beginnings of all
-- that follow.
use Rattle.std.proofs.Common.{◌≡◌, false, List, [], ◌∷◌, ◌++◌}
use Rattle.std.specs.List.{AllByRecursion}
use Rattle.std.specs.Ordering.{is_lt}
use Rattle.std.specs.declared.cmp.Ordering.TheVariants.{Less}
use Rattle.pep_clause.specs.Cut.{Cut, IsCut, cut_cmp}
use Rattle.pep_clause.specs.Laws.{cut_total}
use Rattle.pep_clause.specs.VersionSet.{IsIncreasing, IsNormal, Range, cuts}
use Rattle.pep_clause.proofs.Between.{not_above-below}

-- a cut below another
abbrev pub Under : Cut → Cut → Type 0
Under c d = cut_cmp c d ≡ Less

-- each range begins above the cut
abbrev pub AllAbove : Cut → List Range → Type 0
AllAbove c [] = Unit {0}
AllAbove c (r ∷ rest) = Under c r.low × AllAbove c rest

-- no range ends above the cut
abbrev pub NoneBeyond : Cut → List Range → Type 0
NoneBeyond c [] = Unit {0}
NoneBeyond c (r ∷ rest) = (is_lt (cut_cmp c r.high) ≡ false) × NoneBeyond c rest

abbrev pub Apart : List Range → Type 0
Apart [] = Unit {0}
Apart (r ∷ rest) = Under r.low r.high × AllAbove r.high rest × Apart rest

-- each range has its cuts in their one spelling
abbrev pub Spelled : List Range → Type 0
Spelled [] = Unit {0}
Spelled (r ∷ rest) = IsCut r.low × IsCut r.high × Spelled rest

pub Spelled-cuts : (ranges : List Range) → Spelled ranges → AllByRecursion IsCut (cuts ranges)
Spelled-cuts [] s = tt
Spelled-cuts (r ∷ rest) s = (s.0, (s.1, Spelled-cuts rest s.2))

pub cuts-Spelled : (ranges : List Range) → AllByRecursion IsCut (cuts ranges) → Spelled ranges
cuts-Spelled [] s = tt
cuts-Spelled (r ∷ rest) s = (s.0, s.1.0, cuts-Spelled rest s.1.1)

-- what is above a cut is above each cut below it
pub AllAbove-lower : (c d : Cut) (ranges : List Range) → Under c d → AllAbove d ranges →
    AllAbove c ranges
AllAbove-lower c d [] e h = tt
AllAbove-lower c d (r ∷ rest) e h = (cut_total.trans c d r.low e h.0, AllAbove-lower c d rest e h.1)

Apart-cuts : (ranges : List Range) → Apart ranges → IsIncreasing (cuts ranges)
Apart-cuts [] h = tt
Apart-cuts (r ∷ []) h = (h.0, tt)
Apart-cuts (r ∷ s ∷ rest) h = (h.0, (h.1.0, Apart-cuts (s ∷ rest) h.2))

above_first : (c : Cut) (r : Range) (rest : List Range) → Under c r.low → Apart (r ∷ rest) →
    AllAbove c (r ∷ rest)
above_first c r rest e h =
    (e, AllAbove-lower c r.high rest (cut_total.trans c r.low r.high e h.0) h.1)

cuts-Apart : (ranges : List Range) → IsIncreasing (cuts ranges) → Apart ranges
cuts-Apart [] h = tt
cuts-Apart (r ∷ []) h = (h.0, tt, tt)
cuts-Apart (r ∷ s ∷ rest) h =
    let later = cuts-Apart (s ∷ rest) h.1.1 in
    (h.0, above_first r.high s rest h.1.0 later, later)

pub IsNormal-from : (ranges : List Range) → Apart ranges → Spelled ranges → IsNormal ranges
IsNormal-from ranges apart spelled =
    record { increasing = Apart-cuts ranges apart; spelled = Spelled-cuts ranges spelled }

pub IsNormal-apart : (ranges : List Range) → IsNormal ranges → Apart ranges
IsNormal-apart ranges n = cuts-Apart ranges n.increasing

pub IsNormal-spelled : (ranges : List Range) → IsNormal ranges → Spelled ranges
IsNormal-spelled ranges n = cuts-Spelled ranges n.spelled

-- ---- two lists, one behind the other

pub AllAbove-append : (c : Cut) (xs ys : List Range) → AllAbove c xs → AllAbove c ys →
    AllAbove c (xs ++ ys)
AllAbove-append c [] ys h g = g
AllAbove-append c (r ∷ xs) ys h g = (h.0, AllAbove-append c xs ys h.1 g)

pub NoneBeyond-append : (c : Cut) (xs ys : List Range) → NoneBeyond c xs → NoneBeyond c ys →
    NoneBeyond c (xs ++ ys)
NoneBeyond-append c [] ys h g = g
NoneBeyond-append c (r ∷ xs) ys h g = (h.0, NoneBeyond-append c xs ys h.1 g)

pub Spelled-append : (xs ys : List Range) → Spelled xs → Spelled ys → Spelled (xs ++ ys)
Spelled-append [] ys h g = g
Spelled-append (r ∷ xs) ys h g = (h.0, h.1, Spelled-append xs ys h.2 g)

-- what is above a cut is above each cut that is not above that
pub AllAbove-not_above : (c d : Cut) (ranges : List Range) → is_lt (cut_cmp c d) ≡ false →
    AllAbove c ranges → AllAbove d ranges
AllAbove-not_above c d [] e h = tt
AllAbove-not_above c d (r ∷ rest) e h =
    (not_above-below cut_total d c r.low e h.0, AllAbove-not_above c d rest e h.1)

-- where the first list ends at a cut or below it, and the second begins above it, the two are apart
pub Apart-append : (c : Cut) (xs ys : List Range) → Apart xs → Apart ys → NoneBeyond c xs →
    AllAbove c ys → Apart (xs ++ ys)
Apart-append c [] ys h g e f = g
Apart-append c (r ∷ xs) ys h g e f = (
  h.0,
  AllAbove-append r.high xs ys h.1 (AllAbove-not_above c r.high ys e.0 f),
  Apart-append c xs ys h.2 g e.1 f,
)
