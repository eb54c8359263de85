-- The sweep whose ranges are moved: what is left of a range that ends later may begin elsewhere, below all
-- that comes.
use Rattle.std.proofs.Common.{◌≡◌, inl, inr, true, false, List, [], ◌∷◌, ◌++◌}
use Rattle.std.proofs.Common.{refl, sym, ap, subst, ◌∙◌, ℕ, ◌+◌, arith, length}
use Rattle.std.specs.Ordering.{is_lt, ordering_reverse}
use Rattle.std.specs.Prelude.{if◌then◌else◌}
use Rattle.std.specs.declared.cmp.Ordering.{Ordering}
use Rattle.std.specs.declared.cmp.Ordering.TheVariants.{Less, Equal, Greater}
use Rattle.pep_clause.specs.Cut.{Cut, IsCut, cut_cmp}
use Rattle.pep_clause.specs.Laws.{cut_total}
use Rattle.pep_clause.specs.Way.Joined.{SameBehind, earlier, joined, later, range_joined, row_joined}
use Rattle.pep_clause.specs.OperatorTable.{range}
use Rattle.pep_clause.specs.VersionSet.{IsNormal, Range}
use Rattle.pep_clause.proofs.Between.{not_turned}
use Rattle.pep_clause.proofs.NormalLists.{AllAbove, Apart, Under}
use Rattle.pep_clause.proofs.OneCut.{one-cut}
use Rattle.pep_clause.proofs.Sweeping.{IsSwept, joined_with_none, left_swept, right_swept}
use Rattle.pep_clause.proofs.Sweeping.{swept_first}

later_first : (c d : Cut) → Under d c → later cut_cmp c d ≡ c
later_first c d e = ap (λ b. if b then d else c) (not_turned cut_total d c e)

later_second : (c d : Cut) → Under c d → later cut_cmp c d ≡ d
later_second c d e = ap (λ o. if is_lt o then d else c) e

later_turned_by : (o : Ordering) (c d : Cut) → cut_cmp c d ≡ o → IsCut c → IsCut d →
    later cut_cmp c d ≡ later cut_cmp d c
later_turned_by Less c d e h g = later_second c d e ∙ sym (later_first d c e)
later_turned_by Equal c d e h g =
    let same : c ≡ d = one-cut c d h g e in
    subst (λ x. later cut_cmp c x ≡ later cut_cmp x c) same refl
later_turned_by Greater c d e h g =
    let turned : Under d c = cut_total.antisymm d c ∙ ap ordering_reverse e in
    later_first c d turned ∙ sym (later_second d c turned)

-- the later of two cuts is the same either way
later_turned : (c d : Cut) → IsCut c → IsCut d → later cut_cmp c d ≡ later cut_cmp d c
later_turned c d h g = later_turned_by (cut_cmp c d) c d refl h g

-- ---- ranges that are the same behind a place

-- have the same in common with a range that begins above it
behind_left : (p : Cut) (u s t : Range) → Under p u.low → SameBehind p s t →
    range_joined u s ≡ range_joined u t
behind_left p u s t e (inl same) = ap (range_joined u) (sym same)
behind_left p u s t e (inr h) =
    let was = later_first u.low s.low (cut_total.trans s.low p u.low h.1 e) in
    let is = later_first u.low t.low (cut_total.trans t.low p u.low h.2 e) in
    λ i. range ((was ∙ sym is) i) (earlier cut_cmp u.high (sym h.0 i))

behind_right : (p : Cut) (u s t : Range) → Under p u.low → SameBehind p s t →
    range_joined s u ≡ range_joined t u
behind_right p u s t e (inl same) = ap (λ r. range_joined r u) (sym same)
behind_right p u s t e (inr h) =
    let was = later_second s.low u.low (cut_total.trans s.low p u.low h.1 e) in
    let is = later_second t.low u.low (cut_total.trans t.low p u.low h.2 e) in
    λ i. range ((was ∙ sym is) i) (earlier cut_cmp (sym h.0 i) u.high)

row_behind : (p : Cut) (s t : Range) (more : List Range) → AllAbove p more → SameBehind p s t →
    row_joined s more ≡ row_joined t more
row_behind p s t [] h b = refl
row_behind p s t (u ∷ more) h b =
    λ i. behind_right p u s t h.0 b i ++ row_behind p s t more h.1 b i

joined_behind : (p : Cut) (s t : Range) (rest more : List Range) → AllAbove p rest →
    SameBehind p s t → joined rest (s ∷ more) ≡ joined rest (t ∷ more)
joined_behind p s t [] more h b = refl
joined_behind p s t (u ∷ rest) more h b =
    λ i. (behind_left p u s t h.0 b i ++ row_joined u more)
    ++ joined_behind p s t rest more h.1 b i

apart_behind : (p : Cut) (s t : Range) (more : List Range) → Under t.low t.high →
    SameBehind p s t → Apart (s ∷ more) → Apart (t ∷ more)
apart_behind p s t more up (inl same) h = subst (λ r. Apart (r ∷ more)) (sym same) h
apart_behind p s t more up (inr b) h = (up, subst (λ c. AllAbove c more) (sym b.0) h.1, h.2)

-- ---- a turn

-- what lies in the range that ends first and not under the other's beginning is what they have in common
common_left : (r s : Range) → is_lt (cut_cmp r.high s.high) ≡ true →
    range (later cut_cmp r.low s.low) r.high ≡ range_joined r s
common_left r s e =
    ap (λ b. range (later cut_cmp r.low s.low) (if b then r.high else s.high)) (sym e)

common_right : (r s : Range) → is_lt (cut_cmp r.high s.high) ≡ false → IsCut r.low →
    IsCut s.low → range (later cut_cmp s.low r.low) s.high ≡ range_joined r s
common_right r s e h g =
    ap (λ c. range c s.high) (later_turned s.low r.low g h)
    ∙ ap (λ b. range (later cut_cmp r.low s.low) (if b then r.high else s.high)) (sym e)

moved_left : (ranges other_ranges found rest more : List Range) (r s t : Range) →
    IsSwept ranges other_ranges found (r ∷ rest) (s ∷ more) → is_lt (cut_cmp r.high s.high) ≡ true →
    SameBehind r.high s t → Under t.low t.high →
    IsSwept ranges other_ranges (found ++ range_joined r s) rest (t ∷ more)
moved_left ranges other_ranges found rest more r s t h e b up =
    let turn = left_swept ranges other_ranges found r s rest more h e in record {
      rest = ap (λ x. (found ++ range_joined r s) ++ x)
          (sym (joined_behind r.high s t rest more h.left_apart.1 b))
          ∙ turn.rest;
      left_apart = turn.left_apart;
      right_apart = apart_behind r.high s t more up b h.right_apart;
    }

moved_right : (ranges other_ranges found rest more : List Range) (r s t : Range) →
    IsSwept ranges other_ranges found (r ∷ rest) (s ∷ more) → is_lt (cut_cmp r.high s.high) ≡ false →
    SameBehind s.high r t → Under t.low t.high →
    IsSwept ranges other_ranges (found ++ range_joined r s) (t ∷ rest) more
moved_right ranges other_ranges found rest more r s t h e b up =
    let turn = right_swept ranges other_ranges found r s rest more h e in record {
      rest = ap (λ x. (found ++ range_joined r s) ++ (x ++ joined rest more))
          (sym (row_behind s.high r t more h.right_apart.1 b))
          ∙ turn.rest;
      left_apart = apart_behind s.high r t rest up b h.left_apart;
      right_apart = turn.right_apart;
    }

-- the same, of what the code finds
pub left_moves : (ranges other_ranges found new rest more : List Range) (r s t : Range) →
    IsSwept ranges other_ranges found (r ∷ rest) (s ∷ more) → is_lt (cut_cmp r.high s.high) ≡ true →
    SameBehind r.high s t → Under t.low t.high →
    new ≡ found ++ range (later cut_cmp r.low s.low) r.high →
    IsSwept ranges other_ranges new rest (t ∷ more)
left_moves ranges other_ranges found new rest more r s t h e behind up n =
    subst (λ x. IsSwept ranges other_ranges x rest (t ∷ more))
    (sym (n ∙ ap (λ x. found ++ x) (common_left r s e)))
    (moved_left ranges other_ranges found rest more r s t h e behind up)

pub right_moves : (ranges other_ranges found new rest more : List Range) (r s t : Range) →
    IsSwept ranges other_ranges found (r ∷ rest) (s ∷ more) → is_lt (cut_cmp r.high s.high) ≡ false →
    IsCut s.low × IsCut r.low → SameBehind s.high r t → Under t.low t.high →
    new ≡ found ++ range (later cut_cmp s.low r.low) s.high →
    IsSwept ranges other_ranges new (t ∷ rest) more
right_moves ranges other_ranges found new rest more r s t h e cuts behind up n =
    subst (λ x. IsSwept ranges other_ranges x (t ∷ rest) more)
    (sym (n ∙ ap (λ x. found ++ x) (common_right r s e cuts.1 cuts.0)))
    (moved_right ranges other_ranges found rest more r s t h e behind up)

-- before the first turn
pub first_moves : (ranges other_ranges found left right : List Range) → IsNormal ranges →
    IsNormal other_ranges → found ≡ [] → ranges ≡ left → other_ranges ≡ right →
    IsSwept ranges other_ranges found left right
first_moves ranges other_ranges found left right h g e f k =
    subst (λ x. IsSwept ranges other_ranges found x right) f
    (subst (λ y. IsSwept ranges other_ranges found ranges y) k
    (swept_first ranges other_ranges found 0 h g e).0)

-- where there is no other range
pub none_moves : (ranges other_ranges found : List Range) → found ≡ [] → 0 ≡ length other_ranges →
    found ≡ joined ranges other_ranges
none_moves ranges [] found e h = e ∙ sym (joined_with_none ranges)
none_moves ranges (s ∷ more) found e h = absurd (omega (arith, h))

-- how many ranges are left behind the next
pub next_left : (n m : ℕ) (old new : List Range) (r : Range) → n ≡ length old → old ≡ r ∷ new →
    m + 1 ≡ n → m ≡ length new
next_left n m old new r h e f = let short = ap length e in omega (arith, h, short, f)
