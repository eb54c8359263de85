-- The points and the versions of what two lists of ranges have in common.
use Rattle.std.proofs.Common.{◌≡◌, ◌&&◌, ◌||◌, Bool, true, false, not, List, [], ◌∷◌, ◌++◌, refl}
use Rattle.std.proofs.Common.{sym, ap, ◌∙◌, ◌≤◌, ◌<◌, length, get_or, arith}
use Rattle.std.specs.Ordering.{is_ge, is_lt}
use Rattle.std.specs.declared.cmp.Ordering.{Ordering}
use Rattle.std.specs.declared.cmp.Ordering.TheVariants.{Less, Equal, Greater}
use Rattle.std.specs.Prelude.{if◌then◌else◌}
use Rattle.pep_version.specs.Version.{Version}
use Rattle.pep_clause.specs.Cut.{Cut, before, cut_cmp}
use Rattle.pep_clause.specs.Laws.{cut_total}
use Rattle.pep_clause.proofs.UnderCut.{is_in-is_point}
use Rattle.pep_clause.specs.Way.Joined.{all_within, are_within, range_joined, is_within, joined}
use Rattle.pep_clause.specs.Way.Joined.{row_joined, earlier, later}
use Rattle.pep_clause.specs.OperatorTable.{range}
use Rattle.pep_clause.specs.VersionSet.{Range, is_in, is_point}
use Rattle.pep_clause.proofs.Between.{below-earlier, below-not_above, is_between, less_told}
use Rattle.pep_clause.proofs.Between.{none_between, not_below-later}
use Rattle.texts.proofs.Connectives.{by_answer, and-false, and_from, and_given, and_parts}
use Rattle.texts.proofs.Connectives.{or-false, or_assoc, or_given, and-or_distrib_left}
use Rattle.texts.proofs.Connectives.{and-or_distrib_right, answers_differ, not-true}

-- the points of one range
abbrev pub has_point : Range → Cut → Bool
has_point r c = is_between cut_cmp r.low r.high c

-- of two high tests and two low ones
pair_up : (p q r s : Bool) → ((p && q) && (r && s)) ≡ ((p && r) && (q && s))
pair_up true true r s = refl
pair_up true false true s = refl
pair_up true false false s = refl
pair_up false q r s = refl

-- the points of two lists together
pub is_point-append : (xs ys : List Range) (c : Cut) → is_point (xs ++ ys) c
    ≡ (is_point xs c || is_point ys c)
is_point-append [] ys c = refl
is_point-append (r ∷ xs) ys c =
    ap (λ b. has_point r c || b) (is_point-append xs ys c)
    ∙ sym (or_assoc (has_point r c) (is_point xs c) (is_point ys c))

range_by : (b : Bool) (low high c : Cut) → is_lt (cut_cmp low high) ≡ b
    → is_point (if b then record { low = low; high = high } ∷ [] else []) c
    ≡ is_between cut_cmp low high c
range_by true low high c e = or-false (is_between cut_cmp low high c)
range_by false low high c e = sym (none_between cut_total low high c e)

-- the points of a range, which is left out where it is empty
pub is_point-range : (low high c : Cut) → is_point (range low high) c
    ≡ is_between cut_cmp low high c
is_point-range low high c = range_by (is_lt (cut_cmp low high)) low high c refl

pub is_point-range_joined : (r s : Range) (c : Cut) → is_point (range_joined r s) c
    ≡ (has_point r c && has_point s c)
is_point-range_joined r s c =
    is_point-range (later cut_cmp r.low s.low) (earlier cut_cmp r.high s.high) c
    ∙ (λ i. below-earlier cut_total c r.high s.high i && not_below-later cut_total c r.low s.low i)
    ∙ pair_up (is_lt (cut_cmp c r.high)) (is_lt (cut_cmp c s.high)) (not (is_lt (cut_cmp c r.low)))
    (not (is_lt (cut_cmp c s.low)))

pub is_point-row_joined : (r : Range) (other_ranges : List Range) (c : Cut) →
    is_point (row_joined r other_ranges) c ≡ (has_point r c && is_point other_ranges c)
is_point-row_joined r [] c = sym (and-false (has_point r c))
is_point-row_joined r (s ∷ rest) c =
    is_point-append (range_joined r s) (row_joined r rest) c
    ∙ (λ i. is_point-range_joined r s c i || is_point-row_joined r rest c i)
    ∙ sym (and-or_distrib_left (has_point r c) (has_point s c) (is_point rest c))

-- a cut is a point of what two lists have in common exactly if it is one of both
pub is_point-joined : (ranges other_ranges : List Range) (c : Cut) →
    is_point (joined ranges other_ranges) c ≡ (is_point ranges c && is_point other_ranges c)
is_point-joined [] other_ranges c = refl
is_point-joined (r ∷ rest) other_ranges c =
    is_point-append (row_joined r other_ranges) (joined rest other_ranges) c
    ∙ (λ i. is_point-row_joined r other_ranges c i || is_point-joined rest other_ranges c i)
    ∙ sym (and-or_distrib_right (has_point r c) (is_point rest c) (is_point other_ranges c))

-- a version is in what two lists have in common exactly if it is in both
pub is_in-joined : (ranges other_ranges : List Range) (v : Version) →
    is_in (joined ranges other_ranges) v ≡ (is_in ranges v && is_in other_ranges v)
is_in-joined ranges other_ranges v =
    is_in-is_point (joined ranges other_ranges) v
    ∙ is_point-joined ranges other_ranges (before v)
    ∙ (λ i. sym (is_in-is_point ranges v) i && sym (is_in-is_point other_ranges v) i)

-- .. of a list that is what two lists have in common
pub joined_points : (ranges other_ranges found : List Range) → found ≡ joined ranges other_ranges → (c : Cut) →
    is_point found c ≡ (is_point ranges c && is_point other_ranges c)
joined_points ranges other_ranges found e c =
    (λ i. is_point (e i) c) ∙ is_point-joined ranges other_ranges c

pub joined_versions : (ranges other_ranges found : List Range) → found ≡ joined ranges other_ranges →
    (v : Version) → is_in found v ≡ (is_in ranges v && is_in other_ranges v)
joined_versions ranges other_ranges found e v =
    (λ i. is_in (e i) v) ∙ is_in-joined ranges other_ranges v

-- ---- ranges that lie in one range

not_less : (r : Ordering) → is_ge r ≡ true → is_lt r ≡ false
not_less Less e = cc e
not_less Equal e = refl
not_less Greater e = refl

-- a point of a range is one of the range that it lies in
point_within : (r s : Range) (c : Cut) → is_within r s ≡ true → has_point r c ≡ true →
    (has_point s c || false) ≡ true
point_within r s c e h =
    let within = and_parts (is_ge (cut_cmp r.low s.low)) (is_ge (cut_cmp s.high r.high)) e in
    let inside = and_parts (is_lt (cut_cmp c r.high)) (not (is_lt (cut_cmp c r.low))) h in
    let below : is_lt (cut_cmp c s.high) ≡ true =
    ap is_lt (below-not_above cut_total c r.high s.high (less_told _ inside.0)
    (not_less _ within.1)) in
    or-false (has_point s c) ∙ and_from (is_lt (cut_cmp c s.high))
    (not (is_lt (cut_cmp c s.low))) below
    (by_answer (is_lt (cut_cmp c s.low))
    (λ t. answers_differ (is_lt (cut_cmp c r.low)) (is_lt (cut_cmp c r.low)) refl
    (ap is_lt (below-not_above cut_total c s.low r.low (less_told _ t) (not_less _ within.0)))
    (not-true (is_lt (cut_cmp c r.low)) inside.1))
    (λ t. ap not t))

-- the points of ranges that lie in one range are points of that range
pub is_point-within : (ranges other_ranges : List Range) (c : Cut) → are_within ranges other_ranges ≡ true →
    is_point ranges c ≡ (is_point ranges c && is_point other_ranges c)
is_point-within ranges [] c e = cc e
is_point-within [] (s ∷ []) c e = refl
is_point-within (r ∷ rest) (s ∷ []) c e =
    let within = and_parts (is_within r s) (are_within rest (s ∷ [])) e in
    or_given (has_point r c) (is_point rest c) (is_point (s ∷ []) c)
    (and_given (has_point r c) (is_point (s ∷ []) c) (point_within r s c within.0))
    (is_point-within rest (s ∷ []) c within.1)
is_point-within ranges (s ∷ t ∷ rest) c e = cc e

-- and so are their versions
pub is_in-within : (ranges other_ranges : List Range) (v : Version) → are_within ranges other_ranges ≡ true →
    is_in ranges v ≡ (is_in ranges v && is_in other_ranges v)
is_in-within ranges other_ranges v e =
    is_in-is_point ranges v
    ∙ is_point-within ranges other_ranges (before v) e
    ∙ (λ i. sym (is_in-is_point ranges v) i && sym (is_in-is_point other_ranges v) i)

-- where there is one other range
pub one_other : (ranges other_ranges : List Range) (s : Range) → 1 ≤ length other_ranges → length other_ranges < 2 →
    s ≡ get_or other_ranges 0 s → all_within ranges s ≡ are_within ranges other_ranges
one_other ranges [] s some one e = absurd (omega (arith, some))
one_other ranges (t ∷ []) s some one e = ap (all_within ranges) e
one_other ranges (t ∷ u ∷ rest) s some one e = absurd (omega (arith, one))
