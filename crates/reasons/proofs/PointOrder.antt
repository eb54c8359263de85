-- Points that are sorted by their cuts.
use Rattle.std.proofs.Common.{◌≡◌, ℕ, ◌+◌, ◌-◌, ◌<◌, ◌≤◌, Bool, true, false, List, get_or, length}
use Rattle.std.proofs.Common.{arith, refl, sym, subst, ◌∙◌, inl, inr}
use Rattle.std.specs.Cmp.{IsStrictWeakOrder}
use Rattle.std.specs.List.Sorted.{IsPartitionedBy}
use Rattle.std.specs.Ordering.{is_lt}
use Rattle.std.specs.Prelude.{◌≢◌, ◌&&◌, not}
use Rattle.std.proofs.lemmas.Bool.Decides.{leb_tells}
use Rattle.std.proofs.lemmas.List.{get_or_read}
use Rattle.std.proofs.lemmas.List.Folds.{list_any_at}
use Rattle.std.proofs.lemmas.List.Sorted.{ranks_by, sorted_far}
use Rattle.pep_clause.specs.Cut.{Cut, cut_cmp}
use Rattle.pep_clause.specs.Laws.{cut_total}
use Rattle.pep_clause.specs.VersionSet.{IsPoint, Range}
use Rattle.reasons.specs.Way.Apart.{AreBelow, AreRising, OwnsBelow}
use Rattle.reasons.specs.declared.apart.Point.{Point}

order : IsStrictWeakOrder (λ (x y : Cut). is_lt (cut_cmp x y))
order = ranks_by cut_total (λ (c : Cut). c)

-- a cut that is not above another stands below what that one does
below_too : (a b c : Cut) → is_lt (cut_cmp b a) ≡ false → is_lt (cut_cmp b c) ≡ true →
    is_lt (cut_cmp a c) ≡ true
below_too a b c le lt = by (is_lt (cut_cmp a c)) refl
  where
    by : (t : Bool) → is_lt (cut_cmp a c) ≡ t → is_lt (cut_cmp a c) ≡ true
    by true e = e
    by false e =
        let never : is_lt (cut_cmp b c) ≡ false = order.chain b a c le e in
        let both : true ≡ false = sym lt ∙ never in cc both

-- those that stand below a cut come first
pub below_first : (points : List Point) (cut : Cut) → AreRising points →
    IsPartitionedBy (λ (p : Point). is_lt (cut_cmp p.cut cut)) points
below_first points cut rising i j d le lt below =
    below_too (get_or points i d).cut (get_or points j d).cut cut (rising i j d le lt) below

-- .. so where the last one does, all do
pub all_below : (points : List Point) (cut : Cut) (x : Point) → AreRising points → 0 < length points →
    x ≡ get_or points (length points - 1) x → is_lt (cut_cmp x.cut cut) ≡ true → AreBelow points (length points) cut
all_below points cut x rising some is below k d lt =
    let last = length points - 1 in
    let inside : last < length points = omega (arith, some) in
    let le : k ≤ last = omega (arith, lt) in
    below_first points cut rising k last d le inside
    (subst (λ (p : Point). is_lt (cut_cmp p.cut cut) ≡ true) (get_or_read points last x inside is d) below)

-- where one doesn't stand below a cut, none behind it does
pub none_below : (points : List Point) (cut : Cut) (from at own : ℕ) (x : Point) → AreRising points →
    at < length points → x ≡ get_or points at x → is_lt (cut_cmp x.cut cut) ≡ false →
    ((k : ℕ) (d : Point) → from ≤ k → k < at → (get_or points k d).owner ≡ own) →
    OwnsBelow points from cut own
none_below points cut from at own x rising lt is above here k d le inside other = elim (leb_tells at k) [
  | inl (e, after) ↦
      order.chain (get_or points k d).cut (get_or points at d).cut cut (rising at k d after inside)
      (subst (λ (p : Point). is_lt (cut_cmp p.cut cut) ≡ false) (get_or_read points at x lt is d) above)
  | inr (e, before) ↦ absurd (other (here k d le before))
]

point_of : (ranges : List Range) (i : ℕ) (r : Range) (c : Cut) → i < length ranges → r ≡ get_or ranges i r →
    is_lt (cut_cmp c r.high) ≡ true → is_lt (cut_cmp c r.low) ≡ false → IsPoint ranges c
point_of ranges i r c lt is high low =
    list_any_at (λ (s : Range). is_lt (cut_cmp c s.high) && not (is_lt (cut_cmp c s.low))) ranges i r lt
    (subst (λ (s : Range). is_lt (cut_cmp c s.high) && not (is_lt (cut_cmp c s.low)) ≡ true) is both)
  where
    both : is_lt (cut_cmp c r.high) && not (is_lt (cut_cmp c r.low)) ≡ true
    both = rw (high, low) refl

-- one range more: the points of other claims that stand in front of its end lie in the ranges
pub others_more : (ranges : List Range) (points : List Point) (own from to i : ℕ) (r : Range) →
    i < length ranges → r ≡ get_or ranges i r →
    ((k : ℕ) (d : Point) → k < from → (get_or points k d).owner ≢ own → IsPoint ranges (get_or points k d).cut) →
    OwnsBelow points from r.low own → AreBelow points to r.high → to ≤ length points →
    (k : ℕ) (d : Point) → k < to → (get_or points k d).owner ≢ own → IsPoint ranges (get_or points k d).cut
others_more ranges points own from to i r lt is front low high within k d inside other =
    elim (leb_tells from k) [
      | inl (e, after) ↦
          point_of ranges i r (get_or points k d).cut lt is (high k d inside) (low k d after (omega arith) other)
      | inr (e, before) ↦ front k d before other
    ]

-- ---- one after the other

-- up to an index no point stands below the one before it
abbrev pub RisesTo : List Point → ℕ → Type 0
RisesTo points i = (k : ℕ) (d : Point) → k + 1 < i →
    is_lt (cut_cmp (get_or points (k + 1) d).cut (get_or points k d).cut) ≡ false

pub rises_more : (points : List Point) (i j : ℕ) (x y : Point) → j + 1 ≡ i → i < length points →
    x ≡ get_or points i x → y ≡ get_or points j y → is_lt (cut_cmp x.cut y.cut) ≡ false → RisesTo points i →
    RisesTo points (i + 1)
rises_more points i j x y next lt is was rises before k d below = elim (leb_tells i (k + 1)) [
  | inl (e, after) ↦
      let same : j ≡ k = omega (arith, below, after, next) in
      let above : i ≡ k + 1 = omega (arith, below, after) in
      subst (λ (n : ℕ). is_lt (cut_cmp (get_or points (k + 1) d).cut (get_or points n d).cut) ≡ false) same
      (subst (λ (n : ℕ). is_lt (cut_cmp (get_or points n d).cut (get_or points j d).cut) ≡ false) above
      (subst (λ (p : Point). is_lt (cut_cmp p.cut (get_or points j d).cut) ≡ false) (get_or_read points i x lt is d)
      (subst (λ (p : Point). is_lt (cut_cmp x.cut p.cut) ≡ false)
      (get_or_read points j y (omega (arith, next, lt)) was d) rises)))
  | inr (e, sooner) ↦ before k d sooner
]

pub rises_all : (points : List Point) (i : ℕ) → length points ≤ i → RisesTo points i → AreRising points
rises_all points i all rises =
    sorted_far (λ (x y : Point). is_lt (cut_cmp x.cut y.cut)) (ranks_by cut_total (λ (p : Point). p.cut)) points
    (λ k d low lt. rises k d (omega (arith, all, lt)))
