-- The sweep that gives the ranges of what parts leave over from a cut on.
use Rattle.std.proofs.Common.{◌≡◌, ◌&&◌, ◌||◌, Bool, true, false, not, List, [], ◌∷◌, ◌++◌, refl, sym, ap, ◌∙◌, get_or}
use Rattle.std.specs.Prelude.{All}
use Rattle.std.specs.Ordering.{is_lt}
use Rattle.std.specs.declared.cmp.Ordering.TheVariants.{Less}
use Rattle.std.proofs.lemmas.List.Folds.{list_any_none}
use Rattle.std.specs.Prelude.{if◌then◌else◌}
use Rattle.texts.proofs.Connectives.{and-false, and-true, or-false}
use Rattle.pep_clause.specs.Cut.{Cut, IsCut, cut_cmp, end}
use Rattle.pep_clause.specs.Way.Joined.{joined, later}
use Rattle.pep_clause.specs.Laws.{cut_total}
use Rattle.pep_clause.specs.OperatorTable.{range}
use Rattle.pep_clause.specs.VersionSet.{Range, is_point}
use Rattle.pep_clause.proofs.Between.{below-later_first, below-later_second, below-not_above, is_between, later-keeps, less_told, none_between, not_below-later}
use Rattle.pep_clause.proofs.JoinedPoints.{is_point-append, is_point-joined, is_point-range}
use Rattle.pep_clause.proofs.LeastCut.{end-below_none}
use Rattle.pep_clause.proofs.NormalJoined.{Apart-range, IsNormal-joined, IsNormal-range, Spelled-range, above_by}
use Rattle.pep_clause.proofs.NormalLists.{AllAbove-append, Apart, IsNormal-from, Spelled, Spelled-append, Under}
use Rattle.pep_clause.proofs.OneList.{same_points}
use Rattle.packed_cuts.specs.Way.LeftOut.{IsPart, is_left_out, left_over}
use Rattle.packed_cuts.specs.declared.packed_range.PackedRange.{PackedRange}
use Rattle.packed_cuts.proofs.LeftOver.{is_below, is_inside, left_normal, left_points}

-- ---- parts of which none begins below a cut

-- no cut below that is in any of them
none-left : (front : List PackedRange) (low c : Cut) → All (λ p. is_below p.low low ≡ false) front →
    is_below c low ≡ true → is_left_out front c ≡ false
none-left front low c h t =
    list_any_none (λ p. is_inside p c) front (λ k d lt.
    outside_by (get_or front k d)
    (ap is_lt (below-not_above cut_total c low (get_or front k d).low (less_told _ t) (h k d lt))))
  where
    outside_by : (b : PackedRange) → is_below c b.low ≡ true → is_inside b c ≡ false
    outside_by b e = ap (λ t. is_below c b.high && not t) e ∙ and-false (is_below c b.high)

below-end : (c d : Cut) → is_below c d ≡ true → is_below c end ≡ true
below-end c d t = ap is_lt (below-not_above cut_total c d end (less_told _ t) (end-below_none d))

-- ---- ranges that end below a cut

abbrev pub AllUnder : Cut → List Range → Type 0
AllUnder c [] = Unit {0}
AllUnder c (r ∷ rest) = Under r.high c × AllUnder c rest

under-later : (from next : Cut) (ranges : List Range) → AllUnder from ranges →
    AllUnder (later cut_cmp from next) ranges
under-later from next [] h = tt
under-later from next (r ∷ rest) h =
    (below-later_first cut_total r.high from next h.0, under-later from next rest h.1)

under-append : (c : Cut) (xs ys : List Range) → AllUnder c xs → AllUnder c ys → AllUnder c (xs ++ ys)
under-append c [] ys h g = g
under-append c (r ∷ xs) ys h g = (h.0, under-append c xs ys h.1 g)

under-range : (c low high : Cut) → Under high c → AllUnder c (range low high)
under-range c low high e = by (is_below low high)
  where
    by : (t : Bool) → AllUnder c (if t then record { low = low; high = high } ∷ [] else [])
    by true = (e, tt)
    by false = tt

apart-more : (xs : List Range) (low high : Cut) → Apart xs → AllUnder low xs → Apart (xs ++ range low high)
apart-more [] low high h g = Apart-range low high
apart-more (r ∷ xs) low high h g = (
  h.0,
  AllAbove-append r.high xs (range low high) h.1 (above_by (is_below low high) r.high low high g.0),
  apart-more xs low high h.2 g.1,
)

-- ---- the loop

-- What is found, and from a cut on what the parts that are left leave over, is what all of them leave over
-- from the first cut on.
pub record SweptTo (low : Cut) (all left : List PackedRange) (ranges : List Range) (from : Cut) : Type 0 where
  pub points : (c : Cut) →
      (is_point ranges c || ((is_below c end && not (is_below c from)) && not (is_left_out left c)))
      ≡ ((is_below c end && not (is_below c low)) && not (is_left_out all c))
  pub apart : Apart ranges
  pub under : AllUnder from ranges
  pub spelled : Spelled ranges
  pub from_cut : IsCut from

pub swept-first : (low : Cut) (parts : List PackedRange) (ranges : List Range) → ranges ≡ [] → IsCut low →
    SweptTo low parts parts ranges low
swept-first low parts ranges e is = rw e (record {
  points = λ c. refl;
  apart = tt;
  under = tt;
  spelled = tt;
  from_cut = is;
})

turn : (found from low high whole left : Bool) → (low ≡ true → left ≡ false) → (low ≡ true → whole ≡ true) →
    ((found || (low && not from)) || ((whole && (not from && not high)) && not left))
    ≡ (found || ((whole && not from) && not (left || (high && not low))))
turn true from low high whole left h g = refl
turn false from true high whole true h g = cc (h refl)
turn false from true high false false h g = cc (g refl)
turn false true true high true false h g = refl
turn false false true true true false h g = refl
turn false false true false true false h g = refl
turn false from false high false left h g = refl
turn false true false high true left h g = refl
turn false false false true true true h g = refl
turn false false false true true false h g = refl
turn false false false false true true h g = refl
turn false false false false true false h g = refl

pub swept-next : (low : Cut) (all left rest : List PackedRange) (ranges new : List Range) (from next : Cut) (b : PackedRange) →
    SweptTo low all left ranges from → ((c : Cut) → is_left_out left c ≡ (is_left_out rest c || is_inside b c)) → IsPart b →
    All (λ p. is_below p.low b.low ≡ false) rest → new ≡ ranges ++ range from b.low →
    next ≡ later cut_cmp from b.high → SweptTo low all rest new next
swept-next low all left rest ranges new from next b h taken part behind f g =
    rw (f, g) (record {
      points = λ c. (λ i. is_point-append ranges (range from b.low) c i || ((is_below c end && at_later c i) && not (is_left_out rest c)))
          ∙ (λ i. (is_point ranges c || is_point-range from b.low c i)
          || ((is_below c end && (not (is_below c from) && not (is_below c b.high))) && not (is_left_out rest c)))
          ∙ turn (is_point ranges c) (is_below c from) (is_below c b.low) (is_below c b.high) (is_below c end)
          (is_left_out rest c) (none-left rest b.low c behind) (below-end c b.low)
          ∙ (λ i. is_point ranges c || ((is_below c end && not (is_below c from)) && not (sym (taken c) i)))
          ∙ h.points c;
      apart = apart-more ranges from b.low h.apart h.under;
      under = under-append (later cut_cmp from b.high) ranges (range from b.low)
          (under-later from b.high ranges h.under)
          (under-range (later cut_cmp from b.high) from b.low
          (below-later_second cut_total b.low from b.high part.in_order));
      spelled = Spelled-append ranges (range from b.low) h.spelled
          (Spelled-range from b.low h.from_cut part.low);
      from_cut = later-keeps IsCut (is_below from b.high) from b.high h.from_cut part.high;
    })
  where
    at_later : (c : Cut) → not (is_below c (later cut_cmp from b.high)) ≡ (not (is_below c from) && not (is_below c b.high))
    at_later c = not_below-later cut_total c from b.high

-- where no part is left
pub swept-whole : (low : Cut) (all left : List PackedRange) (ranges new : List Range) (from : Cut) → IsCut low →
    All IsPart all → SweptTo low all left ranges from → left ≡ [] → new ≡ ranges ++ range from end →
    new ≡ joined (range low end) (left_over all)
swept-whole low all [] ranges new from is are h e f =
    f ∙ same_points (ranges ++ range from end) (joined (range low end) (left_over all))
    (IsNormal-from (ranges ++ range from end) (apart-more ranges from end h.apart h.under)
    (Spelled-append ranges (range from end) h.spelled (Spelled-range from end h.from_cut tt)))
    (IsNormal-joined (range low end) (left_over all) (IsNormal-range low end is tt) (left_normal all are))
    (λ c cut. is_point-append ranges (range from end) c
    ∙ ap (λ t. is_point ranges c || t) (is_point-range from end c ∙ sym (and-true (is_below c end && not (is_below c from))))
    ∙ h.points c
    ∙ joined_twice (is_below c end) (not (is_below c low)) (not (is_left_out all c))
    ∙ (λ i. sym (is_point-range low end c) i && sym (left_points all c) i)
    ∙ sym (is_point-joined (range low end) (left_over all) c))
  where
    joined_twice : (e f g : Bool) → ((e && f) && g) ≡ ((e && f) && (e && g))
    joined_twice true f g = refl
    joined_twice false f g = refl
swept-whole low all (b ∷ rest) ranges new from is are h e f = cc e

-- ---- up to a cut

-- the parts with what lies at a cut and behind it
pub closed-part : (high : Cut) → IsCut high → cut_cmp high end ≡ Less → IsPart (record { low = high; high = end })
closed-part high is e = record { in_order = e; low = is; high = tt }

-- .. which is nothing where the cut isn't below the end
pub closed-none : (parts : List PackedRange) (high : Cut) → is_below high end ≡ false → (c : Cut) →
    is_left_out parts c ≡ (is_left_out parts c || is_between cut_cmp high end c)
closed-none parts high h c =
    sym (or-false (is_left_out parts c))
    ∙ ap (λ t. is_left_out parts c || t) (sym (none_between cut_total high end c h))

up_to : (low high end others : Bool) → (high ≡ true → end ≡ true) →
    ((end && not low) && (end && not (others || (end && not high)))) ≡ ((high && not low) && (end && not others))
up_to low true false others h = cc (h refl)
up_to true true true others h = refl
up_to false true true true h = refl
up_to false true true false h = refl
up_to low false false others h = refl
up_to true false true others h = refl
up_to false false true true h = refl
up_to false false true false h = refl

-- what is left over between two cuts, where what lies at the high one and behind it is left out too
pub between-high : (low high : Cut) (parts all : List PackedRange) (ranges : List Range) → IsCut low → IsCut high →
    All IsPart parts → All IsPart all →
    ((c : Cut) → is_left_out all c ≡ (is_left_out parts c || is_between cut_cmp high end c)) →
    ranges ≡ joined (range low end) (left_over all) → ranges ≡ joined (range low high) (left_over parts)
between-high low high parts all ranges is high_is are all_are same e =
    e ∙ same_points (joined (range low end) (left_over all)) (joined (range low high) (left_over parts))
    (IsNormal-joined (range low end) (left_over all) (IsNormal-range low end is tt) (left_normal all all_are))
    (IsNormal-joined (range low high) (left_over parts) (IsNormal-range low high is high_is) (left_normal parts are))
    (λ c cut. is_point-joined (range low end) (left_over all) c
    ∙ (λ i. is_point-range low end c i && left_points all c i)
    ∙ (λ i. (is_below c end && not (is_below c low)) && (is_below c end && not (same c i)))
    ∙ up_to (is_below c low) (is_below c high) (is_below c end) (is_left_out parts c) (below-end c high)
    ∙ (λ i. sym (is_point-range low high c) i && sym (left_points parts c) i)
    ∙ sym (is_point-joined (range low high) (left_over parts) c))
