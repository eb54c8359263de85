-- The first bytes of texts as numbers are in the order of the texts.
use Rattle.std.proofs.Common.{◌≡◌, ◌≢◌, ℕ, zero, suc, ◌+◌, ◌*◌, ◌<◌, ◌≤◌, ◌-◌, ◌^◌, ◌++◌, ◌/◌, ◌%◌, inl, inr}
use Rattle.std.proofs.Common.{Bool, true, false, cond, nat_lt, ltb-true}
use Rattle.std.proofs.Common.{List, [], ◌∷◌, drop, get_or, refl, sym, ap, subst, ◌∙◌, arith, lit<}
use Rattle.std.specs.Cmp.{nat_cmp_is}
use Rattle.std.specs.Cmp.Lexicographic.{nat_list_cmp_total}
use Rattle.std.specs.List.{AllByRecursion}
use Rattle.std.specs.Ordering.{nat_cmp, ordering_reverse}
use Rattle.std.specs.Str.{IsUtf8}
use Rattle.std.specs.declared.cmp.Ordering.TheVariants.{Less, Equal, Greater}
use Rattle.std.proofs.lemmas.Bool.{and_parts, cases_lt}
use Rattle.std.proofs.Math.Nat.{pow-le-pow_right, pow-suc}
use Rattle.texts.specs.Way.Arena.{text_cmp}
use Rattle.texts.specs.Way.Heads.{behind, first, head_of, with_digits}
use lib.Utf8.{encode, encodes, scalar, scalars, scalar_cases}

-- ---- one step of the loop

first-drop : (x : List ℕ) (i : ℕ) → first (drop i x) ≡ get_or x i 0
first-drop [] zero = refl
first-drop [] (suc i) = refl
first-drop (b ∷ x) zero = refl
first-drop (b ∷ x) (suc i) = first-drop x i

behind-drop : (x : List ℕ) (i : ℕ) → behind (drop i x) ≡ drop (suc i) x
behind-drop [] zero = refl
behind-drop [] (suc i) = refl
behind-drop (b ∷ x) zero = refl
behind-drop (b ∷ x) (suc i) = behind-drop x i

pub head-step : (x : List ℕ) (i n : ℕ) → i < 8 →
    with_digits (8 - (i + 1)) (n * 256 + get_or x i 0) (drop (i + 1) x)
    ≡ with_digits (8 - i) n (drop i x)
head-step x i n h =
    let count : 8 - i ≡ suc (8 - (i + 1)) = omega arith in
    let next : i + 1 ≡ suc i = omega arith in
    let rest : behind (drop i x) ≡ drop (i + 1) x =
    behind-drop x i ∙ ap (λ k. drop k x) (sym next) in
    sym (rw count (λ j. with_digits (8 - (i + 1)) (n * 256 + first-drop x i j) (rest j)))

-- the number has room for one byte more
pub head-room : (i n : ℕ) → i < 8 → n < 256 ^ i → n * 256 + 256 ≤ 18446744073709551616
head-room i n h below =
    let most : 256 ^ i ≤ 72057594037927936 =
    pow-le-pow_right (lit< tt) {i = i} {j = 7} (omega arith) in
    omega arith

pub head-below : (i n b : ℕ) → n < 256 ^ i → b < 256 → n * 256 + b < 256 ^ (i + 1)
head-below i n b below small =
    let next : 256 ^ (i + 1) ≡ 256 ^ i * 256 = ap (λ k. 256 ^ k) (omega arith) ∙ pow-suc 256 i in
    rw next (omega arith)

-- ---- numbers in the order of texts

abbrev pub Small : List ℕ → Type 0
Small x = AllByRecursion (λ b. b < 256) x

first-small : (x : List ℕ) → Small x → first x < 256
first-small [] h = lit< tt
first-small (b ∷ x) h = h.0

behind-small : (x : List ℕ) → Small x → Small (behind x)
behind-small [] h = tt
behind-small (b ∷ x) h = h.1

-- the number with the first byte of a text as its next digit
abbrev next : ℕ → List ℕ → ℕ
next n x = n * 256 + first x

-- more digits do not turn the order
with_digits-below : (k m n : ℕ) (x y : List ℕ) → Small x → m < n →
    with_digits k m x < with_digits k n y
with_digits-below zero m n x y h below = below
with_digits-below (suc k) m n x y h below =
    let small = first-small x h in
    with_digits-below k (next m x) (next n y) (behind x) (behind y) (behind-small x h) (omega arith)

first_below : (x y : List ℕ) → first x < first y → text_cmp x y ≡ Less
first_below [] [] h = absurd (omega arith)
first_below [] (b ∷ y) h = refl
first_below (a ∷ x) [] h = absurd (omega arith)
first_below (a ∷ x) (b ∷ y) h = rw (sym (nat_cmp_is a b Less h)) refl

not_below_none : {G : Type 0} (x : List ℕ) → text_cmp x [] ≡ Less → G
not_below_none [] e = cc e
not_below_none (a ∷ x) e = cc e

first_same : (x y : List ℕ) → first x ≡ first y → text_cmp (behind x) (behind y) ≡ Less →
    text_cmp x y ≡ Less
first_same [] [] e h = cc h
first_same [] (b ∷ y) e h = refl
first_same (a ∷ x) [] e h = not_below_none x h
first_same (a ∷ x) (b ∷ y) e h = rw (sym (nat_cmp_is a b Equal e)) h

below : (k n : ℕ) (x y : List ℕ) → Small x → Small y → with_digits k n x < with_digits k n y →
    text_cmp x y ≡ Less
below zero n x y h g lt = absurd (omega arith)
below (suc k) n x y h g lt =
    elim (cases_lt (first x) (first y)) [
      | inl less ↦ first_below x y less
      | inr not_less ↦ elim (cases_lt (first y) (first x)) [
        | inl more ↦
            let turned : with_digits k (next n y) (behind y) < with_digits k (next n x) (behind x) =
            with_digits-below k (next n y) (next n x) (behind y) (behind x) (behind-small y g)
            (omega arith) in
            absurd (omega arith)
        | inr not_more ↦
            let same : first x ≡ first y = omega arith in
            let one : next n y ≡ next n x = ap (λ d. n * 256 + d) (sym same) in
            let rest = subst (λ d. with_digits k (next n x) (behind x) < with_digits k d (behind y))
            one lt in
            first_same x y same
            (below k (next n x) (behind x) (behind y) (behind-small x h) (behind-small y g) rest)
      ]
    ]

head_below : (x y : List ℕ) → Small x → Small y → head_of x < head_of y → text_cmp x y ≡ Less
head_below x y h g less = below 8 0 x y h g less

-- numbers of texts that differ compare as the texts do
pub head_cmp : (x y : List ℕ) → Small x → Small y → head_of x ≢ head_of y →
    nat_cmp (head_of x) (head_of y) ≡ text_cmp x y
head_cmp x y h g apart =
    elim (cases_lt (head_of x) (head_of y)) [
      | inl less ↦ sym (nat_cmp_is (head_of x) (head_of y) Less less) ∙ sym (head_below x y h g less)
      | inr not_less ↦
          let more : head_of y < head_of x =
          elim (cases_lt (head_of y) (head_of x)) [ inl l ↦ l | inr r ↦ absurd (apart (omega arith)) ] in
          let turned = ap ordering_reverse (head_below y x g h more) in
          sym (nat_cmp_is (head_of x) (head_of y) Greater more)
          ∙ sym (nat_list_cmp_total.antisymm x y ∙ turned)
    ]

-- ---- equal numbers of texts that are long enough

-- ---- the bytes of UTF-8

-- each byte of a character is small
small_char : (c : ℕ) → scalar c ≡ true → Small (encode c)
unfolding encode
small_char c ok = by (nat_lt c 128) refl (nat_lt c 2048) refl (nat_lt c 65536) refl
  where
    by : (x : Bool) → nat_lt c 128 ≡ x → (y : Bool) → nat_lt c 2048 ≡ y → (z : Bool) → nat_lt c 65536 ≡ z →
        Small (cond x (c ∷ []) (cond y ((192 + c / 64) ∷ (128 + c % 64) ∷ [])
        (cond z ((224 + c / 4096) ∷ (128 + (c / 64) % 64) ∷ (128 + c % 64) ∷ [])
        ((240 + c / 262144) ∷ (128 + (c / 4096) % 64) ∷ (128 + (c / 64) % 64) ∷ (128 + c % 64) ∷ []))))
    by true e y f z g = let low = ltb-true c 128 e in (omega arith, tt)
    by false e true f z g = let low = ltb-true c 2048 f in (omega arith, (omega arith, tt))
    by false e false f true g = let low = ltb-true c 65536 g in (omega arith, (omega arith, (omega arith, tt)))
    by false e false f false g =
        let low : c < 1114112 = elim (scalar_cases c ok) [ inl l ↦ omega arith | inr r ↦ r.1 ] in
        (omega arith, (omega arith, (omega arith, (omega arith, tt))))

small-append : (x y : List ℕ) → Small x → Small y → Small (x ++ y)
small-append [] y h g = g
small-append (b ∷ x) y h g = (h.0, small-append x y h.1 g)

small_chars : (cs : List ℕ) → scalars cs ≡ true → Small (encodes cs)
small_chars [] e = tt
small_chars (c ∷ cs) e =
    let both = and_parts (scalar c) (scalars cs) e in
    small-append (encode c) (encodes cs) (small_char c both.0) (small_chars cs both.1)

pub utf8_small : (x : List ℕ) → IsUtf8 x → Small x
utf8_small x (cs, (valid, is)) = subst Small is (small_chars cs valid)
