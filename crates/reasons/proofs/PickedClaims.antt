-- Claims at indices, and indices that are picked from others.
use Rattle.std.proofs.Common.{◌≡◌, ℕ, zero, suc, ◌+◌, ◌<◌, ◌≤◌, List, [], ◌∷◌, ◌++◌}
use Rattle.std.proofs.Common.{arith, length, take, refl, sym, ap, subst, ◌∙◌, inl, inr}
use Rattle.std.specs.Prelude.{All, Contains, slice_index_or}
use Rattle.std.proofs.Math.Seq.{take-length}
use Rattle.std.proofs.lemmas.List.{map-append}
use Rattle.std.proofs.lemmas.List.Elements.{All-append, All-cons, All-contains, All-contains_itself}
use Rattle.std.proofs.lemmas.List.Elements.{All-nil, All-push, All-weaker, Contains-append_cases, Contains-append_left}
use Rattle.std.proofs.lemmas.List.Elements.{Contains-append_right}
use Rattle.pep_require.proofs.Members.{in_either, in_first, in_none, in_rest}
use Rattle.reasons.proofs.ClaimOrder.{first_before, rest_in_order}
use Rattle.reasons.specs.Claims.{AreAmong, AreInOrder, PlacedParts, StandsBefore}
use Rattle.reasons.specs.Way.ClashSearch.{ArePicked, AreWithin, RiseFrom, indices}
use Rattle.reasons.specs.View.{claims_at, nowhere}

-- ---- claims at indices

-- the one at an index
abbrev pub claim_at : List PlacedParts → ℕ → PlacedParts
claim_at ps k = slice_index_or ps k nowhere

there_at : (ps : List PlacedParts) (k : ℕ) → k < length ps → Contains ps (claim_at ps k)
there_at [] k lt = absurd (omega (arith, lt))
there_at (p ∷ ps) zero lt = in_first p ps p refl
there_at (p ∷ ps) (suc k) lt =
    in_rest p ps (claim_at ps k) (there_at ps k (omega (arith, lt)))

front_more : (ps : List PlacedParts) (k : ℕ) → k < length ps →
    take (suc k) ps ≡ take k ps ++ claim_at ps k ∷ []
front_more [] k lt = absurd (omega (arith, lt))
front_more (p ∷ ps) zero lt = refl
front_more (p ∷ ps) (suc k) lt =
    ap (λ (l : List PlacedParts). p ∷ l) (front_more ps k (omega (arith, lt)))

first_within : (ps : List PlacedParts) (k : ℕ) (ks : List ℕ) → AreWithin ps (k ∷ ks) → k < length ps
first_within ps k ks h = h 0 0 (omega arith)

rest_within : (ps : List PlacedParts) (k : ℕ) (ks : List ℕ) → AreWithin ps (k ∷ ks) → AreWithin ps ks
rest_within ps k ks h = λ i d lt. h (suc i) d (omega (arith, lt))

-- claims at indices are among all
pub at_among : (ps : List PlacedParts) (ks : List ℕ) → AreWithin ps ks → AreAmong (claims_at ps ks) ps
at_among ps [] h p m = absurd (in_none p m)
at_among ps (k ∷ ks) h p m = elim (in_either (claim_at ps k) (claims_at ps ks) p m) [
  | inl same ↦ subst (Contains ps) same (there_at ps k (first_within ps k ks h))
  | inr more ↦ at_among ps ks (rest_within ps k ks h) p more
]

-- .. and so are those at some of the indices
pub some_within : (ps : List PlacedParts) (ks js : List ℕ) → ((k : ℕ) → Contains ks k → Contains js k) →
    AreWithin ps js → AreWithin ps ks
some_within ps ks js among h = λ k d lt.
    All-contains (λ i. i < length ps) js (slice_index_or ks k d) h
    (among (slice_index_or ks k d) (All-contains_itself ks k d lt))

pub parts_within : (ps : List PlacedParts) (ks front back : List ℕ) → ks ≡ front ++ back →
    AreWithin ps ks → AreWithin ps front × AreWithin ps back
parts_within ps ks front back whole h = (
  some_within ps front ks (λ k m. subst (λ (l : List ℕ). Contains l k) (sym whole)
      (Contains-append_left front back k m)) h,
  some_within ps back ks (λ k m. subst (λ (l : List ℕ). Contains l k) (sym whole)
      (Contains-append_right front back k m)) h,
)

pub parts_at : (ps : List PlacedParts) (ks front back : List ℕ) → ks ≡ front ++ back →
    claims_at ps ks ≡ claims_at ps front ++ claims_at ps back
parts_at ps ks front back whole =
    ap (claims_at ps) whole ∙ map-append (claim_at ps) front back

-- ---- indices that are picked

pub none_picked : (js : List ℕ) → ArePicked [] js
none_picked [] = refl
none_picked (j ∷ js) = inl (none_picked js)

pub all_picked : (js : List ℕ) → ArePicked js js
all_picked [] = refl
all_picked (j ∷ js) = inr (js, refl, all_picked js)

picked_append : (ks ls is js : List ℕ) → ArePicked ks is → ArePicked ls js →
    ArePicked (ks ++ ls) (is ++ js)
picked_append ks ls [] js h g =
    subst (λ (l : List ℕ). ArePicked (l ++ ls) js) (sym h) g
picked_append ks ls (i ∷ is) js (inl h) g = inl (picked_append ks ls is js h g)
picked_append ks ls (i ∷ is) js (inr (rest, e, h)) g =
    inr (rest ++ ls, ap (λ (l : List ℕ). l ++ ls) e, picked_append rest ls is js h g)

pub picked_there : (ks js : List ℕ) → ArePicked ks js → (k : ℕ) → Contains ks k → Contains js k
picked_there ks [] h k m = subst (λ (l : List ℕ). Contains l k) h m
picked_there ks (j ∷ js) (inl h) k m = in_rest j js k (picked_there ks js h k m)
picked_there ks (j ∷ js) (inr (rest, e, h)) k m =
    elim (in_either j rest k (subst (λ (l : List ℕ). Contains l k) e m)) [
      | inl same ↦ in_first j js k same
      | inr more ↦ in_rest j js k (picked_there rest js h k more)
    ]

pub claims_picked : (ps : List PlacedParts) (ks js : List ℕ) → ArePicked ks js →
    AreAmong (claims_at ps ks) (claims_at ps js)
claims_picked ps ks [] h p m = subst (λ (l : List ℕ). Contains (claims_at ps l) p) h m
claims_picked ps ks (j ∷ js) (inl h) p m =
    in_rest (claim_at ps j) (claims_at ps js) p (claims_picked ps ks js h p m)
claims_picked ps ks (j ∷ js) (inr (rest, e, h)) p m =
    elim (in_either (claim_at ps j) (claims_at ps rest) p
    (subst (λ (l : List ℕ). Contains (claims_at ps l) p) e m)) [
      | inl same ↦ in_first (claim_at ps j) (claims_at ps js) p same
      | inr more ↦ in_rest (claim_at ps j) (claims_at ps js) p (claims_picked ps rest js h p more)
    ]

pub picked_of_both : (ks front back all xs ys : List ℕ) → ks ≡ front ++ back → all ≡ xs ++ ys →
    ArePicked xs front → ArePicked ys back → ArePicked all ks
picked_of_both ks front back all xs ys whole found h g =
    subst (ArePicked all) (sym whole)
    (subst (λ (l : List ℕ). ArePicked l (front ++ back)) (sym found) (picked_append xs ys front back h g))

rise_sooner : (m n : ℕ) (ks : List ℕ) → m ≤ n → RiseFrom n ks → RiseFrom m ks
rise_sooner m n [] le h = tt
rise_sooner m n (k ∷ ks) le h = let first = h.0 in (omega (arith, le, first), h.1)

pub picked_rise : (n : ℕ) (ks js : List ℕ) → ArePicked ks js → RiseFrom n js → RiseFrom n ks
picked_rise n ks [] h r = subst (RiseFrom n) (sym h) tt
picked_rise n ks (j ∷ js) (inl h) r =
    let first = r.0 in
    rise_sooner n (j + 1) ks (omega (arith, first)) (picked_rise (j + 1) ks js h r.1)
picked_rise n ks (j ∷ js) (inr (rest, e, h)) r =
    subst (RiseFrom n) (sym e) (r.0, picked_rise (j + 1) rest js h r.1)

-- ---- all indices

rise_more : (m n : ℕ) (ks : List ℕ) → RiseFrom m ks → ((k : ℕ) → Contains ks k → k < n) → m ≤ n →
    RiseFrom m (ks ++ n ∷ [])
rise_more m n [] r below le = (le, tt)
rise_more m n (k ∷ ks) r below le =
    let first = below k (in_first k ks k refl) in (
      r.0,
      rise_more (k + 1) n ks r.1 (λ j m. below j (in_rest k ks j m)) (omega (arith, first)),
    )

pub indices_within : (ps : List PlacedParts) (n : ℕ) → n ≤ length ps → AreWithin ps (indices n)
indices_within ps zero le = All-nil (λ k. k < length ps)
indices_within ps (suc n) le =
    All-append (λ k. k < length ps) (indices n) (n ∷ []) (indices_within ps n (omega (arith, le)))
    (All-cons (λ k. k < length ps) n [] (omega (arith, le)) (All-nil (λ k. k < length ps)))

indices_below : (n : ℕ) (k : ℕ) → Contains (indices n) k → k < n
indices_below zero k m = absurd (in_none k m)
indices_below (suc n) k m = elim (Contains-append_cases (indices n) (n ∷ []) k m) [
  | inl before ↦ let less = indices_below n k before in omega (arith, less)
  | inr one ↦ elim (in_either n [] k one) [
    | inl same ↦ omega (arith, same)
    | inr more ↦ absurd (in_none k more)
  ]
]

pub indices_rise : (n : ℕ) → RiseFrom 0 (indices n)
indices_rise zero = tt
indices_rise (suc n) =
    rise_more 0 n (indices n) (indices_rise n) (indices_below n) (omega arith)

first_at : (ps : List PlacedParts) (n : ℕ) → n ≤ length ps → claims_at ps (indices n) ≡ take n ps
first_at ps zero le = refl
first_at ps (suc n) le =
    map-append (claim_at ps) (indices n) (n ∷ [])
    ∙ ap (λ (l : List PlacedParts). l ++ claim_at ps n ∷ []) (first_at ps n (omega (arith, le)))
    ∙ sym (front_more ps n (omega (arith, le)))

pub all_at : (ps : List PlacedParts) → claims_at ps (indices (length ps)) ≡ ps
all_at ps = first_at ps (length ps) (omega arith) ∙ take-length ps

-- ---- in order

-- one with a lesser index stands before
before_at : (ps : List PlacedParts) → AreInOrder ps → (i j : ℕ) → i < j → j < length ps →
    StandsBefore (claim_at ps i) (claim_at ps j)
before_at [] o i j lt le = absurd (omega (arith, le))
before_at (p ∷ ps) o i zero lt le = absurd (omega (arith, lt))
before_at (p ∷ ps) o zero (suc j) lt le =
    first_before p ps (claim_at ps j) o (there_at ps j (omega (arith, le)))
before_at (p ∷ ps) o (suc i) (suc j) lt le =
    before_at ps (rest_in_order p ps o) i j (omega (arith, lt)) (omega (arith, le))

pub at_in_order : (ps : List PlacedParts) → AreInOrder ps → (n : ℕ) (ks : List ℕ) → RiseFrom n ks →
    AreWithin ps ks → AreInOrder (claims_at ps ks)
at_in_order ps o n [] r h = tt
at_in_order ps o n (k ∷ []) r h = tt
at_in_order ps o n (k ∷ j ∷ ks) r h =
    let less = r.1.0 in
    let rest = rest_within ps k (j ∷ ks) h in (
      before_at ps o k j (omega (arith, less)) (first_within ps j ks rest),
      at_in_order ps o (k + 1) (j ∷ ks) r.1 rest,
    )

-- ---- indices that are taken one after the other, if they rise

pub record RisenTo (ps : List PlacedParts) (few : List ℕ) (next : ℕ) : Type 0 where
  pub within : AreWithin ps few
  pub rising : RiseFrom 0 few
  pub below : All (λ k. k < next) few

pub risen_none : (ps : List PlacedParts) → RisenTo ps [] 0
risen_none ps = record { within = All-nil _; rising = tt; below = All-nil _ }

pub risen_more : (ps : List PlacedParts) (few : List ℕ) (next k : ℕ) → RisenTo ps few next → next ≤ k →
    k < length ps → RisenTo ps (few ++ k ∷ []) (k + 1)
risen_more ps few next k h le lt = record {
  within = All-push (λ i. i < length ps) few k h.within lt;
  rising = rise_more 0 k few h.rising
      (λ j m. let below = All-contains (λ i. i < next) few j h.below m in omega (arith, le, below)) (omega arith);
  below = All-push (λ i. i < k + 1) few k (All-weaker (λ i. i < next) (λ i. i < k + 1)
      (λ i below. omega (arith, le, below)) few h.below) (omega arith);
}
