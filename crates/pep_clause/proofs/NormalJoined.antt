-- What two normal lists have in common is a normal list.
use Rattle.std.proofs.Common.{◌≡◌, Bool, true, false, List, [], ◌∷◌, refl}
use Rattle.std.specs.Ordering.{is_lt}
use Rattle.std.specs.Prelude.{if◌then◌else◌}
use Rattle.pep_clause.specs.Cut.{Cut, IsCut, cut_cmp}
use Rattle.pep_clause.specs.Laws.{cut_total}
use Rattle.pep_clause.specs.OperatorTable.{range}
use Rattle.pep_clause.specs.VersionSet.{IsNormal, Range}
use Rattle.pep_clause.proofs.Between.{below-later_first, below-later_second, earlier-keeps}
use Rattle.pep_clause.proofs.Between.{earlier-not_above_first, earlier-not_above_second}
use Rattle.pep_clause.proofs.Between.{later-keeps, less_told}
use Rattle.pep_clause.specs.Way.Joined.{earlier, later, range_joined, joined, row_joined}
use Rattle.pep_clause.proofs.NormalLists.{AllAbove, AllAbove-append, Apart, Apart-append}
use Rattle.pep_clause.proofs.NormalLists.{IsNormal-apart, IsNormal-from, IsNormal-spelled}
use Rattle.pep_clause.proofs.NormalLists.{NoneBeyond, NoneBeyond-append, Spelled, Spelled-append}
use Rattle.pep_clause.proofs.NormalLists.{Under}

-- a range that is left out where it is empty
apart_by : (b : Bool) (low high : Cut) → is_lt (cut_cmp low high) ≡ b →
    Apart (if b then record { low = low; high = high } ∷ [] else [])
apart_by true low high e = (less_told (cut_cmp low high) e, tt, tt)
apart_by false low high e = tt

pub Apart-range : (low high : Cut) → Apart (range low high)
Apart-range low high = apart_by (is_lt (cut_cmp low high)) low high refl

pub above_by : (b : Bool) (c low high : Cut) → Under c low →
    AllAbove c (if b then record { low = low; high = high } ∷ [] else [])
above_by true c low high e = (e, tt)
above_by false c low high e = tt

pub beyond_by : (b : Bool) (c low high : Cut) → is_lt (cut_cmp c high) ≡ false →
    NoneBeyond c (if b then record { low = low; high = high } ∷ [] else [])
beyond_by true c low high e = (e, tt)
beyond_by false c low high e = tt

spelled_by : (b : Bool) (low high : Cut) → IsCut low → IsCut high →
    Spelled (if b then record { low = low; high = high } ∷ [] else [])
spelled_by true low high e f = (e, f, tt)
spelled_by false low high e f = tt

pub Spelled-range : (low high : Cut) → IsCut low → IsCut high → Spelled (range low high)
Spelled-range low high = spelled_by (is_lt (cut_cmp low high)) low high

-- a range with spelled cuts, left out where it is empty, is a normal list
pub IsNormal-range : (low high : Cut) → IsCut low → IsCut high → IsNormal (range low high)
IsNormal-range low high e f =
    IsNormal-from (range low high) (Apart-range low high) (Spelled-range low high e f)

-- ---- one range with one

abbrev low_of : Range → Range → Cut
low_of r s = later cut_cmp r.low s.low

abbrev high_of : Range → Range → Cut
high_of r s = earlier cut_cmp r.high s.high

range_joined_above_first : (c : Cut) (r s : Range) → Under c r.low → AllAbove c (range_joined r s)
range_joined_above_first c r s e =
    above_by (is_lt (cut_cmp (low_of r s) (high_of r s))) c (low_of r s) (high_of r s)
    (below-later_first cut_total c r.low s.low e)

range_joined_above_second : (c : Cut) (r s : Range) → Under c s.low → AllAbove c (range_joined r s)
range_joined_above_second c r s e =
    above_by (is_lt (cut_cmp (low_of r s) (high_of r s))) c (low_of r s) (high_of r s)
    (below-later_second cut_total c r.low s.low e)

range_joined_within_first : (r s : Range) → NoneBeyond r.high (range_joined r s)
range_joined_within_first r s =
    beyond_by (is_lt (cut_cmp (low_of r s) (high_of r s))) r.high (low_of r s) (high_of r s)
    (earlier-not_above_first cut_total r.high s.high)

range_joined_within_second : (r s : Range) → NoneBeyond s.high (range_joined r s)
range_joined_within_second r s =
    beyond_by (is_lt (cut_cmp (low_of r s) (high_of r s))) s.high (low_of r s) (high_of r s)
    (earlier-not_above_second cut_total r.high s.high)

range_joined_spelled : (r s : Range) → IsCut r.low → IsCut r.high → IsCut s.low → IsCut s.high →
    Spelled (range_joined r s)
range_joined_spelled r s e f g h =
    Spelled-range (low_of r s) (high_of r s)
    (later-keeps IsCut (is_lt (cut_cmp r.low s.low)) r.low s.low e g)
    (earlier-keeps IsCut (is_lt (cut_cmp r.high s.high)) r.high s.high f h)

-- ---- one range with a list

row_above_first : (c : Cut) (r : Range) (other_ranges : List Range) → Under c r.low →
    AllAbove c (row_joined r other_ranges)
row_above_first c r [] e = tt
row_above_first c r (s ∷ rest) e =
    AllAbove-append c (range_joined r s) (row_joined r rest) (range_joined_above_first c r s e)
    (row_above_first c r rest e)

row_above_second : (c : Cut) (r : Range) (other_ranges : List Range) → AllAbove c other_ranges →
    AllAbove c (row_joined r other_ranges)
row_above_second c r [] h = tt
row_above_second c r (s ∷ rest) h =
    AllAbove-append c (range_joined r s) (row_joined r rest) (range_joined_above_second c r s h.0)
    (row_above_second c r rest h.1)

row_within : (r : Range) (other_ranges : List Range) → NoneBeyond r.high (row_joined r other_ranges)
row_within r [] = tt
row_within r (s ∷ rest) =
    NoneBeyond-append r.high (range_joined r s) (row_joined r rest) (range_joined_within_first r s)
    (row_within r rest)

row_apart : (r : Range) (other_ranges : List Range) → Apart other_ranges → Apart (row_joined r other_ranges)
row_apart r [] h = tt
row_apart r (s ∷ rest) h =
    Apart-append s.high (range_joined r s) (row_joined r rest)
    (Apart-range (low_of r s) (high_of r s)) (row_apart r rest h.2)
    (range_joined_within_second r s) (row_above_second s.high r rest h.1)

row_spelled : (r : Range) (other_ranges : List Range) → IsCut r.low → IsCut r.high → Spelled other_ranges →
    Spelled (row_joined r other_ranges)
row_spelled r [] e f h = tt
row_spelled r (s ∷ rest) e f h =
    Spelled-append (range_joined r s) (row_joined r rest) (range_joined_spelled r s e f h.0 h.1)
    (row_spelled r rest e f h.2)

-- ---- two lists

joined_above : (c : Cut) (ranges other_ranges : List Range) → AllAbove c ranges →
    AllAbove c (joined ranges other_ranges)
joined_above c [] other_ranges h = tt
joined_above c (r ∷ rest) other_ranges h =
    AllAbove-append c (row_joined r other_ranges) (joined rest other_ranges) (row_above_first c r other_ranges h.0)
    (joined_above c rest other_ranges h.1)

joined_apart : (ranges other_ranges : List Range) → Apart ranges → Apart other_ranges →
    Apart (joined ranges other_ranges)
joined_apart [] other_ranges h g = tt
joined_apart (r ∷ rest) other_ranges h g =
    Apart-append r.high (row_joined r other_ranges) (joined rest other_ranges)
    (row_apart r other_ranges g) (joined_apart rest other_ranges h.2 g)
    (row_within r other_ranges) (joined_above r.high rest other_ranges h.1)

joined_spelled : (ranges other_ranges : List Range) → Spelled ranges → Spelled other_ranges →
    Spelled (joined ranges other_ranges)
joined_spelled [] other_ranges h g = tt
joined_spelled (r ∷ rest) other_ranges h g =
    Spelled-append (row_joined r other_ranges) (joined rest other_ranges) (row_spelled r other_ranges h.0 h.1 g)
    (joined_spelled rest other_ranges h.2 g)

-- what two normal lists have in common is a normal list
pub IsNormal-joined : (ranges other_ranges : List Range) → IsNormal ranges → IsNormal other_ranges →
    IsNormal (joined ranges other_ranges)
IsNormal-joined ranges other_ranges h g =
    IsNormal-from (joined ranges other_ranges)
    (joined_apart ranges other_ranges (IsNormal-apart ranges h) (IsNormal-apart other_ranges g))
    (joined_spelled ranges other_ranges (IsNormal-spelled ranges h) (IsNormal-spelled other_ranges g))

pub joined_normal : (ranges other_ranges found : List Range) → found ≡ joined ranges other_ranges →
    IsNormal ranges → IsNormal other_ranges → IsNormal found
joined_normal ranges other_ranges found e h g = rw e (IsNormal-joined ranges other_ranges h g)
