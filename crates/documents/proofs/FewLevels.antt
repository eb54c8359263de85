-- A text of few brackets and dots has few levels.
use Rattle.std.proofs.Common.{◌≡◌, ℕ, ◌<◌, ◌≤◌, ◌+◌, ◌-◌, ◌==◌, ◌⊎◌, inl, inr, Bool, true, false, cond, List, []}
use Rattle.std.proofs.Common.{◌∷◌, length, length-append, get_or, refl, arith}
use Rattle.std.specs.Prelude.{◌||◌, Option, Some, None, if◌then◌else◌, slice_get, nat_lt, count_by}
use Rattle.std.specs.List.{All}
use Rattle.std.proofs.lemmas.List.{length-take-le}
use Rattle.std.proofs.lemmas.List.Elements.{All-push, All-take}
use Rattle.std.proofs.lemmas.List.Sums.{sum_by-cons}
use Rattle.std.proofs.lemmas.Option.{slice_get_cases}
use Rattle.documents.specs.declared.nesting.Context.{Context}
use Rattle.documents.specs.declared.nesting.Context.TheVariants.{Bare}
use Rattle.documents.specs.Nesting.{Levels, after, at_closing, at_dot, at_line_feed, at_opening, counted_at}
use Rattle.documents.specs.Nesting.{closes, deepens, goes_on, is_bare, is_shallow, no_levels, opens, stays_shallow}

-- no place so far has over n levels, or over m open brackets
record Few (n m : ℕ) (l : Levels) : Type 0 where
  here : l.here ≤ n
  base : l.base ≤ n
  outer : All (λ o. o ≤ n) l.outer
  brackets : length l.outer ≤ m

abbrev FewAt : ℕ → ℕ → Option Levels → Type 0
FewAt n m (Some l) = Few n m l
FewAt n m None = ⊥

more : (n k m j : ℕ) (l : Levels) → n ≤ k → m ≤ j → Few n m l → Few k j l
more n k m j l up side few = record {
  here = omega (arith, few.here);
  base = omega (arith, few.base);
  outer = λ i d lt. omega (arith, few.outer i d lt);
  brackets = omega (arith, few.brackets);
}

more_at : (n k m j : ℕ) (o : Option Levels) → n ≤ k → m ≤ j → FewAt n m o → FewAt k j o
more_at n k m j (Some l) up side few = more n k m j l up side few
more_at n k m j None up side few = few

is_lt : (a b : ℕ) → a < b → nat_lt a b ≡ true
is_lt a b h = grind arith

few_at_dot : (n m : ℕ) (l : Levels) → n + 1 ≤ 700 → Few n m l → FewAt (n + 1) m (at_dot l)
few_at_dot n m l room few =
    let free : nat_lt l.here 700 ≡ true = is_lt l.here 700 (omega (arith, few.here)) in
    rw free (record {
      here = omega (arith, few.here);
      base = omega (arith, few.base);
      outer = λ i d lt. omega (arith, few.outer i d lt);
      brackets = few.brackets;
    })

few_at_opening : (n m : ℕ) (l : Levels) → n + 1 ≤ 700 → m + 1 ≤ 80 → Few n m l → FewAt (n + 1) (m + 1) (at_opening l)
few_at_opening n m l room space few = by l.is_value refl
  where
    by : (b : Bool) → l.is_value ≡ b → FewAt (n + 1) (m + 1) (at_opening l)
    by false e = rw e (record {
      here = omega arith;
      base = omega (arith, few.base);
      outer = λ i d lt. omega (arith, few.outer i d lt);
      brackets = omega (arith, few.brackets);
    })
    by true e =
        let free : nat_lt l.here 700 ≡ true = is_lt l.here 700 (omega (arith, few.here)) in
        let open_room : nat_lt (length l.outer) 80 ≡ true = is_lt (length l.outer) 80 (omega (arith, few.brackets)) in
        rw (e, free, open_room) (record {
          here = omega (arith, few.here);
          base = omega (arith, few.here);
          outer = All-push (λ o. o ≤ n + 1) l.outer l.base (λ i d lt. omega (arith, few.outer i d lt))
              (omega (arith, few.base));
          brackets = omega (arith, few.brackets, length-append l.outer (l.base ∷ []));
        })

few_at_closing : (n m : ℕ) (l : Levels) → Few n m l → Few n m (at_closing l)
few_at_closing n m l few = by (slice_get_cases l.outer (length l.outer - 1)).1
  where
    by : ((x : ℕ) × (length l.outer - 1 < length l.outer)
        × (slice_get l.outer (length l.outer - 1) ≡ Some x) × (get_or l.outer (length l.outer - 1) x ≡ x))
        ⊎ ((length l.outer ≤ length l.outer - 1) × (slice_get l.outer (length l.outer - 1) ≡ None)) →
        Few n m (at_closing l)
    by (inl (x, lt, found, is)) =
        let low : x ≤ n = rw is at (few.outer (length l.outer - 1) x lt) in
        rw found (record {
          here = low;
          base = low;
          outer = All-take (λ o. o ≤ n) (length l.outer - 1) l.outer few.outer;
          brackets = omega (arith, few.brackets, length-take-le (length l.outer - 1) l.outer (omega arith));
        })
    by (inr (past, none)) = rw none few

few_at_line_feed : (n m : ℕ) (l : Levels) → Few n m l → Few n m (at_line_feed l)
few_at_line_feed n m l few = by (length l.outer == 0) l.is_value refl refl
  where
    by : (outside value : Bool) → (length l.outer == 0) ≡ outside → l.is_value ≡ value → Few n m (at_line_feed l)
    by false v e is = rw e few
    by true true e is =
        rw (e, is) (record { here = few.base; base = few.base; outer = few.outer; brackets = few.brackets })
    by true false e is =
        rw (e, is) (record { here = few.here; base = few.here; outer = few.outer; brackets = few.brackets })

few_picked : (n m : ℕ) (l : Levels) (o c d k e f : Bool) → n + cond (o || d) 1 0 ≤ 700 →
    m + cond o 1 0 ≤ 80 → Few n m l →
    FewAt (n + cond (o || d) 1 0) (m + cond o 1 0)
    (if o then at_opening l else if c then Some (at_closing l) else if d then at_dot l
    else if k then Some (record l { here = l.base }) else if e then Some (record l { is_value = true })
    else if f then Some (at_line_feed l) else Some l)
few_picked n m l true c d k e f room space few = few_at_opening n m l room space few
few_picked n m l false true d k e f room space few =
    more n _ m _ (at_closing l) (omega arith) (omega arith) (few_at_closing n m l few)
few_picked n m l false false true k e f room space few =
    more_at (n + 1) _ m _ (at_dot l) (omega arith) (omega arith) (few_at_dot n m l room few)
few_picked n m l false false false true e f room space few =
    more n _ m _ _ (omega arith) (omega arith)
    (record { here = few.base; base = few.base; outer = few.outer; brackets = few.brackets })
few_picked n m l false false false false true f room space few =
    more n _ m _ _ (omega arith) (omega arith)
    (record { here = few.here; base = few.base; outer = few.outer; brackets = few.brackets })
few_picked n m l false false false false false true room space few =
    more n _ m _ (at_line_feed l) (omega arith) (omega arith) (few_at_line_feed n m l few)
few_picked n m l false false false false false false room space few =
    more n _ m _ l (omega arith) (omega arith) few

few_behind : (context : Context) (n m : ℕ) (l : Levels) (b : ℕ) → n + cond (deepens b) 1 0 ≤ 700 →
    m + cond (opens b) 1 0 ≤ 80 → Few n m l →
    FewAt (n + cond (deepens b) 1 0) (m + cond (opens b) 1 0) (counted_at context l b)
few_behind context n m l b room space few = by (is_bare context b) refl
  where
    by : (bare : Bool) → is_bare context b ≡ bare →
        FewAt (n + cond (deepens b) 1 0) (m + cond (opens b) 1 0) (counted_at context l b)
    by true e = rw e (few_picked n m l (opens b) (closes b) (b == 46) (b == 44) (b == 61) (b == 10) room space few)
    by false e = rw e (more n _ m _ l (omega arith) (omega arith) few)

goes : (f : Levels → Bool) (o : Option Levels) (n m : ℕ) → FewAt n m o →
    ((l : Levels) → Few n m l → f l ≡ true) → goes_on f o ≡ true
goes f (Some l) n m few h = h l few
goes f None n m few h = absurd few

few_are_shallow : (context : Context) (bytes : List ℕ) (n m : ℕ) (l : Levels) → n + count_by deepens bytes ≤ 700 →
    m + count_by opens bytes ≤ 80 → Few n m l → stays_shallow context l bytes ≡ true
unfolding stays_shallow
few_are_shallow context [] n m l room space few = refl
few_are_shallow context (b ∷ bs) n m l room space few =
    let deep = sum_by-cons (λ x. cond (deepens x) 1 0) b bs in
    let brackets = sum_by-cons (λ x. cond (opens x) 1 0) b bs in
    goes _ _ (n + cond (deepens b) 1 0) (m + cond (opens b) 1 0)
    (few_behind context n m l b (omega (arith, deep)) (omega (arith, brackets)) few)
    (λ next now. few_are_shallow (after context b) bs _ _ next (omega (arith, deep)) (omega (arith, brackets)) now)

pub few_brackets_are_shallow : (bytes : List ℕ) → count_by deepens bytes ≤ 700 → count_by opens bytes ≤ 80 →
    is_shallow bytes ≡ true
few_brackets_are_shallow bytes room space =
    few_are_shallow Bare bytes 0 0 no_levels (omega arith) (omega arith)
    (record { here = omega arith; base = omega arith; outer = λ i d lt. absurd (omega arith); brackets = omega arith })
