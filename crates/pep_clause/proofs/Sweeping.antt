-- One sweep over two normal lists: of the first ranges of both the one that ends first is passed,
-- since it has nothing in common with what stands behind the other.
use Rattle.std.proofs.Common.{◌≡◌, ◌⊎◌, inl, inr, Bool, true, false, ℕ, List, [], ◌∷◌, ◌++◌}
use Rattle.std.proofs.Common.{refl, sym, ap, subst, ◌∙◌, ◌+◌, ◌-◌, ◌≤◌, ◌<◌, length, arith}
use Rattle.std.proofs.Common.{append_assoc, append-nil, drop, get_or, length-append, take, take_all}
use Rattle.std.specs.Ordering.{is_lt}
use Rattle.std.specs.Prelude.{if◌then◌else◌}
use Rattle.pep_clause.specs.Cut.{Cut, cut_cmp}
use Rattle.pep_clause.specs.Laws.{cut_total}
use Rattle.pep_clause.specs.Way.Joined.{earlier, joined, later, range_joined, row_joined}
use Rattle.pep_clause.specs.OperatorTable.{range}
use Rattle.pep_clause.specs.VersionSet.{HasFewRanges, IsNormal, Range}
use Rattle.pep_clause.proofs.Between.{below-later_first, below-later_second, less_told}
use Rattle.pep_clause.proofs.Between.{earlier-not_above_first, earlier-not_above_second}
use Rattle.pep_clause.proofs.Between.{not_above-below, not_turned}
use Rattle.pep_clause.proofs.NormalLists.{AllAbove, AllAbove-lower, AllAbove-not_above, Apart}
use Rattle.pep_clause.proofs.NormalLists.{IsNormal-apart, Under}

-- nothing lies above a place and not above it
none_in : (p low high : Cut) → Under p low → is_lt (cut_cmp p high) ≡ false → range low high ≡ []
none_in p low high e h =
    ap (λ b. if b then record { low = low; high = high } ∷ [] else [])
    (not_turned cut_total high low (not_above-below cut_total high p low h e))

-- a range has nothing in common with one that begins above its end
none_above : (r t : Range) → Under r.high t.low → range_joined r t ≡ []
none_above r t e =
    none_in r.high (later cut_cmp r.low t.low) (earlier cut_cmp r.high t.high)
    (below-later_second cut_total r.high r.low t.low e)
    (earlier-not_above_first cut_total r.high t.high)

none_below : (t s : Range) → Under s.high t.low → range_joined t s ≡ []
none_below t s e =
    none_in s.high (later cut_cmp t.low s.low) (earlier cut_cmp t.high s.high)
    (below-later_first cut_total s.high t.low s.low e)
    (earlier-not_above_second cut_total t.high s.high)

row_none : (r : Range) (other_ranges : List Range) → AllAbove r.high other_ranges → row_joined r other_ranges ≡ []
row_none r [] h = refl
row_none r (t ∷ rest) h = λ i. none_above r t h.0 i ++ row_none r rest h.1 i

joined_without : (s : Range) (more ranges : List Range) → AllAbove s.high ranges →
    joined ranges (s ∷ more) ≡ joined ranges more
joined_without s more [] h = refl
joined_without s more (t ∷ rest) h =
    λ i. (none_below t s h.0 i ++ row_joined t more) ++ joined_without s more rest h.1 i

-- where the left range ends first it is passed, else the right one
pub left_passed : (r s : Range) (rest more : List Range) → Apart (s ∷ more) →
    is_lt (cut_cmp r.high s.high) ≡ true →
    joined (r ∷ rest) (s ∷ more) ≡ range_joined r s ++ joined rest (s ∷ more)
left_passed r s rest more h e =
    let behind = row_none r more (AllAbove-lower r.high s.high more (less_told _ e) h.1) in
    ap (λ x. (range_joined r s ++ x) ++ joined rest (s ∷ more)) behind
    ∙ ap (λ x. x ++ joined rest (s ∷ more)) (append-nil (range_joined r s))

pub right_passed : (r s : Range) (rest more : List Range) → Apart (r ∷ rest) →
    is_lt (cut_cmp r.high s.high) ≡ false →
    joined (r ∷ rest) (s ∷ more) ≡ range_joined r s ++ joined (r ∷ rest) more
right_passed r s rest more h e =
    ap (λ x. (range_joined r s ++ row_joined r more) ++ x)
    (joined_without s more rest (AllAbove-not_above r.high s.high rest e h.1))
    ∙ append_assoc (range_joined r s) (row_joined r more) (joined rest more)

-- ---- how many ranges there are

pub joined_with_none : (ranges : List Range) → joined ranges [] ≡ []
joined_with_none [] = refl
joined_with_none (r ∷ rest) = joined_with_none rest

at_most_one : (b : Bool) (r : Range) → length (if b then r ∷ [] else []) ≤ 1
at_most_one true r = omega arith
at_most_one false r = omega arith

pub one_or_none : (r s : Range) → length (range_joined r s) ≤ 1
one_or_none r s =
    let low = later cut_cmp r.low s.low in
    let high = earlier cut_cmp r.high s.high in
    at_most_one (is_lt (cut_cmp low high)) (record { low = low; high = high })

abbrev IsShort : List Range → List Range → Type 0
IsShort ranges other_ranges = length (joined ranges other_ranges) ≤ length ranges + length other_ranges - 1

left_short : (r s : Range) (rest more : List Range) → IsShort rest (s ∷ more) →
    joined (r ∷ rest) (s ∷ more) ≡ range_joined r s ++ joined rest (s ∷ more) →
    IsShort (r ∷ rest) (s ∷ more)
left_short r s rest more h e =
    rw e (omega (arith, length-append {A = Range}, one_or_none r s, h))

right_short : (r s : Range) (rest more : List Range) → IsShort (r ∷ rest) more →
    joined (r ∷ rest) (s ∷ more) ≡ range_joined r s ++ joined (r ∷ rest) more →
    IsShort (r ∷ rest) (s ∷ more)
right_short r s rest more h e =
    rw e (omega (arith, length-append {A = Range}, one_or_none r s, h))

short_by : (b : Bool) (r s : Range) (rest more : List Range) →
    is_lt (cut_cmp r.high s.high) ≡ b → Apart (r ∷ rest) → Apart (s ∷ more) →
    IsShort rest (s ∷ more) → IsShort (r ∷ rest) more → IsShort (r ∷ rest) (s ∷ more)
short_by true r s rest more e h g left right =
    left_short r s rest more left (left_passed r s rest more g e)
short_by false r s rest more e h g left right =
    right_short r s rest more right (right_passed r s rest more h e)

row_short : (r : Range) (rest : List Range) →
    ((other_ranges : List Range) → Apart other_ranges → IsShort rest other_ranges) → Apart (r ∷ rest) →
    (other_ranges : List Range) → Apart other_ranges → IsShort (r ∷ rest) other_ranges
row_short r rest f h [] g = rw (joined_with_none rest) (omega arith)
row_short r rest f h (s ∷ more) g =
    short_by (is_lt (cut_cmp r.high s.high)) r s rest more refl h g (f (s ∷ more) g)
    (row_short r rest f h more g.2)

joined_short : (ranges : List Range) → Apart ranges → (other_ranges : List Range) → Apart other_ranges →
    IsShort ranges other_ranges
joined_short [] h other_ranges g = omega arith
joined_short (r ∷ rest) h other_ranges g = row_short r rest (joined_short rest h.2) h other_ranges g

none_of : (ranges other_ranges : List Range) → (ranges ≡ []) ⊎ (other_ranges ≡ []) → joined ranges other_ranges ≡ []
none_of ranges other_ranges (inl e) = ap (λ x. joined x other_ranges) e
none_of ranges other_ranges (inr e) = ap (joined ranges) e ∙ joined_with_none ranges

-- what two normal lists have in common has few ranges
pub few_ranges : (ranges other_ranges found : List Range) → found ≡ joined ranges other_ranges →
    IsNormal ranges → IsNormal other_ranges → HasFewRanges ranges other_ranges found
few_ranges ranges other_ranges found e h g = rw e (record {
  most = joined_short ranges (IsNormal-apart ranges h) other_ranges (IsNormal-apart other_ranges g);
  none = none_of ranges other_ranges;
})

-- ---- the loop of the sweep

-- What is found so far, and what is left of both lists: with what that has in common it is all that the two lists
-- have in common.
pub record IsSwept (ranges other_ranges found left right : List Range) : Type 0 where
  pub rest : found ++ joined left right ≡ joined ranges other_ranges
  pub left_apart : Apart left
  pub right_apart : Apart right

-- .. with the turns so far: each passes a range, and no other change is made to their count
abbrev pub SweepState : List Range → List Range → ℕ → List Range → List Range → List Range → ℕ →
    Type 0
SweepState ranges other_ranges before found left right passed =
    IsSwept ranges other_ranges found left right
    × (passed + (length left + length right) ≤ before + (length ranges + length other_ranges))
    × (before ≤ passed)

pub swept_first : (ranges other_ranges found : List Range) (before : ℕ) → IsNormal ranges →
    IsNormal other_ranges → found ≡ [] → SweepState ranges other_ranges before found ranges other_ranges before
swept_first ranges other_ranges found before h g e = (
  record {
    rest = ap (λ x. x ++ joined ranges other_ranges) e;
    left_apart = IsNormal-apart ranges h;
    right_apart = IsNormal-apart other_ranges g;
  },
  omega arith,
  omega arith,
)

-- a list, by its first range and the rest
pub cut_first : (ranges : List Range) (r : Range) (n : ℕ) → 1 ≤ length ranges →
    r ≡ get_or ranges 0 r → n ≡ length ranges - 1 → ranges ≡ r ∷ take n (drop 1 ranges)
cut_first [] r n some e f = absurd (omega (arith, some))
cut_first (x ∷ rest) r n some e f =
    (λ i. sym e i ∷ rest) ∙ ap (λ xs. r ∷ xs) (sym (take_all n rest (omega (arith, f))))

-- a turn that passes the left range, or the right one
pub left_swept : (ranges other_ranges found : List Range) (r s : Range) (rest more : List Range) →
    IsSwept ranges other_ranges found (r ∷ rest) (s ∷ more) → is_lt (cut_cmp r.high s.high) ≡ true →
    IsSwept ranges other_ranges (found ++ range_joined r s) rest (s ∷ more)
left_swept ranges other_ranges found r s rest more h e = record {
  rest = append_assoc found (range_joined r s) (joined rest (s ∷ more))
      ∙ ap (λ x. found ++ x) (sym (left_passed r s rest more h.right_apart e))
      ∙ h.rest;
  left_apart = h.left_apart.2;
  right_apart = h.right_apart;
}

pub right_swept : (ranges other_ranges found : List Range) (r s : Range) (rest more : List Range) →
    IsSwept ranges other_ranges found (r ∷ rest) (s ∷ more) → is_lt (cut_cmp r.high s.high) ≡ false →
    IsSwept ranges other_ranges (found ++ range_joined r s) (r ∷ rest) more
right_swept ranges other_ranges found r s rest more h e = record {
  rest = append_assoc found (range_joined r s) (joined (r ∷ rest) more)
      ∙ ap (λ x. found ++ x) (sym (right_passed r s rest more h.left_apart e))
      ∙ h.rest;
  left_apart = h.left_apart;
  right_apart = h.right_apart.2;
}

pub left_turn : (ranges other_ranges found left right new rest more : List Range) (r s : Range)
    (before passed next : ℕ) → SweepState ranges other_ranges before found left right passed →
    left ≡ r ∷ rest → right ≡ s ∷ more → new ≡ found ++ range_joined r s → next ≡ passed + 1 →
    is_lt (cut_cmp r.high s.high) ≡ true → SweepState ranges other_ranges before new rest right next
left_turn ranges other_ranges found left right new rest more r s before passed next h e f g k lt =
    let whole = subst (λ x. SweepState ranges other_ranges before found x right passed) e h in
    let both = subst (λ y. IsSwept ranges other_ranges found (r ∷ rest) y) f whole.0 in
    let done = left_swept ranges other_ranges found r s rest more both lt in (
      subst (λ y. IsSwept ranges other_ranges new rest y) (sym f)
          (subst (λ x. IsSwept ranges other_ranges x rest (s ∷ more)) (sym g) done),
      omega (arith, whole.1, k),
      omega (arith, whole.2, k),
    )

pub right_turn : (ranges other_ranges found left right new rest more : List Range) (r s : Range)
    (before passed next : ℕ) → SweepState ranges other_ranges before found left right passed →
    left ≡ r ∷ rest → right ≡ s ∷ more → new ≡ found ++ range_joined r s → next ≡ passed + 1 →
    is_lt (cut_cmp r.high s.high) ≡ false → SweepState ranges other_ranges before new left more next
right_turn ranges other_ranges found left right new rest more r s before passed next h e f g k lt =
    let whole = subst (λ y. SweepState ranges other_ranges before found left y passed) f h in
    let both = subst (λ x. IsSwept ranges other_ranges found x (s ∷ more)) e whole.0 in
    let done = right_swept ranges other_ranges found r s rest more both lt in (
      subst (λ x. IsSwept ranges other_ranges new x more) (sym e)
          (subst (λ x. IsSwept ranges other_ranges x (r ∷ rest) more) (sym g) done),
      omega (arith, whole.1, k),
      omega (arith, whole.2, k),
    )

-- where one list is used up, all is found
pub swept_left : (ranges other_ranges found left right : List Range) →
    IsSwept ranges other_ranges found left right → length left < 1 → found ≡ joined ranges other_ranges
swept_left ranges other_ranges found [] right h few = sym (append-nil found) ∙ h.rest
swept_left ranges other_ranges found (r ∷ left) right h few = absurd (omega (arith, few))

pub swept_right : (ranges other_ranges found left right : List Range) →
    IsSwept ranges other_ranges found left right → length right < 1 → found ≡ joined ranges other_ranges
swept_right ranges other_ranges found left [] h few =
    sym (ap (λ x. found ++ x) (joined_with_none left) ∙ append-nil found) ∙ h.rest
swept_right ranges other_ranges found left (s ∷ right) h few = absurd (omega (arith, few))
