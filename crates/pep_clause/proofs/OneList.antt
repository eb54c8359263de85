-- A version set has one normal list: two normal lists with the same points are one list. All cuts
-- are meant, also those between which no version lies.
use Rattle.std.proofs.Common.{◌≡◌, ◌||◌, true, false, not, List, [], ◌∷◌, refl, sym, ap, ◌∙◌}
use Rattle.std.specs.Ordering.{is_lt}
use Rattle.pep_clause.specs.Cut.{Cut, IsCut, cut_cmp}
use Rattle.pep_clause.specs.Laws.{cut_total}
use Rattle.pep_clause.specs.VersionSet.{IsNormal, Range, is_point}
use Rattle.pep_clause.proofs.Between.{is_between, less_told, not_above-test, not_below_itself}
use Rattle.pep_clause.proofs.Between.{not_turned, tied_told}
use Rattle.texts.proofs.Connectives.{by_answer, and_left, and_not_or, and_not_right}
use Rattle.texts.proofs.Connectives.{answers_differ, or_from}
use Rattle.pep_clause.proofs.NormalLists.{AllAbove, Apart, IsNormal-apart, IsNormal-spelled}
use Rattle.pep_clause.proofs.NormalLists.{Spelled}
use Rattle.pep_clause.proofs.OneCut.{one-cut}
use Rattle.pep_clause.specs.SetEquality.{SamePoints}

-- a cut that is not above another lies in no range that begins above that
none_below : (high c : Cut) (rest : List Range) → AllAbove high rest →
    is_lt (cut_cmp high c) ≡ false → is_point rest c ≡ false
none_below high c [] h e = refl
none_below high c (r ∷ rest) h e =
    or_from (is_between cut_cmp r.low r.high c) (is_point rest c)
    (and_not_right (is_lt (cut_cmp c r.high)) (is_lt (cut_cmp c r.low))
    (not_above-test cut_total c high r.low e (ap is_lt h.0)))
    (none_below high c rest h.1 e)

-- a cut of the first range's own is a point
first_point : (r : Range) (rest : List Range) (c : Cut) → is_lt (cut_cmp c r.high) ≡ true →
    is_lt (cut_cmp c r.low) ≡ false → is_point (r ∷ rest) c ≡ true
first_point r rest c e f =
    and_not_or (is_lt (cut_cmp c r.high)) (is_lt (cut_cmp c r.low)) (is_point rest c) e f

-- under the first range there is no point
none_under_first : (r : Range) (rest : List Range) (c : Cut) → Apart (r ∷ rest) →
    is_lt (cut_cmp c r.low) ≡ true → is_point (r ∷ rest) c ≡ false
none_under_first r rest c h e =
    or_from (is_between cut_cmp r.low r.high c) (is_point rest c)
    (and_not_right (is_lt (cut_cmp c r.high)) (is_lt (cut_cmp c r.low)) e)
    (none_below r.high c rest h.1 (not_turned cut_total c r.high
    (cut_total.trans c r.low r.high (less_told (cut_cmp c r.low) e) h.0)))

-- above the first range the points are those of the rest
past_first : (r : Range) (rest : List Range) (c : Cut) → is_lt (cut_cmp c r.high) ≡ false →
    is_point (r ∷ rest) c ≡ is_point rest c
past_first r rest c e =
    ap (λ b. b || is_point rest c) (and_left (is_lt (cut_cmp c r.high))
    (not (is_lt (cut_cmp c r.low))) e)

-- the first range of the one does not begin under that of the other
begins_no_earlier : (r s : Range) (rest more : List Range) → Apart (r ∷ rest) → Apart (s ∷ more)
    → is_point (r ∷ rest) r.low ≡ is_point (s ∷ more) r.low → is_lt (cut_cmp r.low s.low) ≡ false
begins_no_earlier r s rest more h g e =
    by_answer (is_lt (cut_cmp r.low s.low))
    (λ t. answers_differ (is_point (r ∷ rest) r.low) (is_point (s ∷ more) r.low) e
    (first_point r rest r.low (ap is_lt h.0) (not_below_itself cut_total r.low))
    (none_under_first s more r.low g t))
    (λ t. t)

-- where both begin at one cut, the first range of the one does not end under that of the other
ends_no_earlier : (r s : Range) (rest more : List Range) → Apart (r ∷ rest) → r.low ≡ s.low
    → is_point (r ∷ rest) r.high ≡ is_point (s ∷ more) r.high →
    is_lt (cut_cmp r.high s.high) ≡ false
ends_no_earlier r s rest more h low e =
    by_answer (is_lt (cut_cmp r.high s.high))
    (λ t. answers_differ (is_point (s ∷ more) r.high) (is_point (r ∷ rest) r.high) (sym e)
    (first_point s more r.high t ((λ i. is_lt (cut_cmp r.high (sym low i)))
    ∙ not_turned cut_total r.low r.high h.0))
    (past_first r rest r.high (not_below_itself cut_total r.high)
    ∙ none_below r.high r.high rest h.1 (not_below_itself cut_total r.high)))
    (λ t. t)

one_low : (r s : Range) (rest more : List Range) → Apart (r ∷ rest) → Apart (s ∷ more) →
    IsCut r.low → IsCut s.low
    → SamePoints (r ∷ rest) (s ∷ more) → r.low ≡ s.low
one_low r s rest more h g e f same =
    one-cut r.low s.low e f
    (tied_told (cut_cmp r.low s.low) (cut_cmp s.low r.low) (cut_total.antisymm r.low s.low)
    (begins_no_earlier r s rest more h g (same r.low e))
    (begins_no_earlier s r more rest g h (sym (same s.low f))))

one_high : (r s : Range) (rest more : List Range) → Apart (r ∷ rest) → Apart (s ∷ more) →
    IsCut r.high → IsCut s.high
    → r.low ≡ s.low → SamePoints (r ∷ rest) (s ∷ more) → r.high ≡ s.high
one_high r s rest more h g e f low same =
    one-cut r.high s.high e f
    (tied_told (cut_cmp r.high s.high) (cut_cmp s.high r.high) (cut_total.antisymm r.high s.high)
    (ends_no_earlier r s rest more h low (same r.high e))
    (ends_no_earlier s r more rest g (sym low) (sym (same s.high f))))

-- the ranges behind the first have the same points
same_rest : (r s : Range) (rest more : List Range) → Apart (r ∷ rest) → Apart (s ∷ more) →
    r.high ≡ s.high
    → SamePoints (r ∷ rest) (s ∷ more) → SamePoints rest more
same_rest r s rest more h g high same c spelled =
    by_answer (is_lt (cut_cmp c r.high))
    (λ t. let below : is_lt (cut_cmp r.high c) ≡ false =
    not_turned cut_total c r.high (less_told (cut_cmp c r.high) t) in
    none_below r.high c rest h.1 below
    ∙ sym (none_below s.high c more g.1 ((λ i. is_lt (cut_cmp (sym high i) c)) ∙ below)))
    (λ t. sym (past_first r rest c t) ∙ same c spelled
    ∙ past_first s more c ((λ i. is_lt (cut_cmp c (sym high i))) ∙ t))

one_list : (ranges other_ranges : List Range) → Apart ranges → Apart other_ranges → Spelled ranges →
    Spelled other_ranges → SamePoints ranges other_ranges → ranges ≡ other_ranges
one_list [] [] h g e f same = refl
one_list [] (s ∷ more) h g e f same =
    answers_differ (is_point (s ∷ more) s.low) false (sym (same s.low f.0))
    (first_point s more s.low (ap is_lt g.0) (not_below_itself cut_total s.low)) refl
one_list (r ∷ rest) [] h g e f same =
    answers_differ (is_point (r ∷ rest) r.low) false (same r.low e.0)
    (first_point r rest r.low (ap is_lt h.0) (not_below_itself cut_total r.low)) refl
one_list (r ∷ rest) (s ∷ more) h g e f same =
    let low = one_low r s rest more h g e.0 f.0 same in
    let high = one_high r s rest more h g e.1 f.1 low same in
    let same_rests = one_list rest more h.2 g.2 e.2 f.2 (same_rest r s rest more h g high same) in
    λ i. record { low = low i; high = high i } ∷ same_rests i

-- two normal lists with the same points are one list
pub same_points : (ranges other_ranges : List Range) → IsNormal ranges → IsNormal other_ranges →
    SamePoints ranges other_ranges → ranges ≡ other_ranges
same_points ranges other_ranges h g same =
    one_list ranges other_ranges (IsNormal-apart ranges h) (IsNormal-apart other_ranges g)
    (IsNormal-spelled ranges h) (IsNormal-spelled other_ranges g) same
