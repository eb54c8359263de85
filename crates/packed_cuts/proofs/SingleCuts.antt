-- Parts that are kept as single packed cuts, beside others: what both leave out, and the one that begins first.
use Rattle.std.proofs.Common.{◌≡◌, ◌≤◌, ◌<◌, ◌-◌, ◌||◌, ℕ, zero, suc, Bool, true, false, List, [], ◌∷◌, ◌++◌, refl, sym, ap, ◌∙◌, arith, get_or, length, length-append, map, cond}
use Rattle.std.specs.Prelude.{All, IfSome, None, Option, Some, option_to_list}
use Rattle.std.specs.List.{dedup, dedup_from, list_any, slice_get}
use Rattle.std.specs.List.Retain.{DiffersFromLast, IsFiltered}
use Rattle.std.specs.List.Sorted.{IsPermutation}
use Rattle.std.specs.Ordering.{eq_by_cmp, is_eq, is_lt}
use Rattle.std.specs.declared.cmp.Ordering.{Ordering}
use Rattle.std.specs.declared.cmp.Ordering.TheVariants.{Less, Equal, Greater}
use Rattle.std.proofs.lemmas.List.{get_or_append_left, get_or_default, map_push}
use Rattle.std.proofs.lemmas.List.Elements.{All-append, All-head, All-map, All-pop, All-tail}
use Rattle.std.proofs.lemmas.List.Filters.{All-dedup, dedup_is}
use Rattle.std.proofs.lemmas.List.Folds.{list_any-append}
use Rattle.std.proofs.lemmas.Option.{get_or_from_slice_get}
use Rattle.std.proofs.lemmas.List.Sorted.{list_any-IsPermutation}
use Rattle.std.proofs.Math.Seq.{get_or-append_seam}
use Rattle.texts.proofs.Connectives.{or_assoc}
use Rattle.pep_clause.specs.Cut.{Cut, cut_cmp}
use Rattle.pep_clause.specs.Laws.{cut_total}
use Rattle.pep_clause.specs.VersionSet.{IsNormal, all_versions}
use Rattle.pep_clause.proofs.Between.{below-not_above, less_told, not_below_itself, not_turned}
use Rattle.pep_clause.proofs.OneCut.{one-cut}
use Rattle.packed_cuts.specs.Way.LeftOut.{AreFalling, IsFalling, IsPart, IsSingle, TakesFirst, all_parts, is_left_out, left_over, low_of, itself, single}
use Rattle.packed_cuts.specs.declared.packed_range.PackedRange.{PackedRange}
use Rattle.packed_cuts.proofs.LeftOver.{is_below, is_inside, left_normal, left_out-behind, nothing_out}

-- ---- what both leave out

pub left_parts : (singles : List Cut) (parts : List PackedRange) (c : Cut) →
    is_left_out (all_parts singles parts) c ≡ (is_left_out (map single singles) c || is_left_out parts c)
left_parts singles parts c = list_any-append (λ b. is_inside b c) (map single singles) parts

pub all_are : (singles : List Cut) (parts : List PackedRange) → All IsSingle singles → All IsPart parts →
    All IsPart (all_parts singles parts)
all_are singles parts h g =
    All-append IsPart (map single singles) parts (All-map IsPart single singles (λ k d lt. (h k d lt).part)) g

pub all_normal : (singles : List Cut) (parts : List PackedRange) → All IsSingle singles → All IsPart parts →
    IsNormal (left_over (all_parts singles parts))
all_normal singles parts h g = left_normal (all_parts singles parts) (all_are singles parts h g)

pub none_of : (singles : List Cut) (parts : List PackedRange) → length singles ≡ 0 → length parts ≡ 0 →
    length (all_parts singles parts) ≡ 0
none_of [] parts e f = f
none_of (s ∷ singles) parts e f = absurd (omega (arith, e))

-- no list has an element
pub record AreNone (own : List Cut) (others : List PackedRange) : Type 0 where
  pub singles : length own ≡ 0
  pub parts : length others ≡ 0

none_each : (own : List Cut) (others : List PackedRange) → length (all_parts own others) ≡ 0 → AreNone own others
none_each [] others e = record { singles = refl; parts = e }
none_each (s ∷ own) others e = absurd (omega (arith, e))

pub none-left : (own : List Cut) (others : List PackedRange) → All IsSingle own → All IsPart others →
    left_over (all_parts own others) ≡ all_versions → AreNone own others
none-left own others h g e = none_each own others (nothing_out (all_parts own others) (all_are own others h g) e)

turned : (a s p : Bool) → ((a || s) || p) ≡ ((a || p) || s)
turned true s p = refl
turned false true true = refl
turned false true false = refl
turned false false true = refl
turned false false false = refl

list_any-map : {X Y : Type 0} (p : Y → Bool) (f : X → Y) (xs : List X) → list_any p (map f xs) ≡ list_any (λ x. p (f x)) xs
list_any-map p f [] = refl
list_any-map p f (x ∷ xs) = ap (λ t. p (f x) || t) (list_any-map p f xs)

-- one single packed cut more
pub left-single : (singles new : List Cut) (parts : List PackedRange) (s : Cut) → new ≡ singles ++ s ∷ [] → (c : Cut) →
    is_left_out (all_parts new parts) c ≡ (is_left_out (all_parts singles parts) c || is_inside (single s) c)
left-single singles new parts s e c =
    left_parts new parts c
    ∙ ap (λ xs. is_left_out xs c || is_left_out parts c) (ap (map single) e ∙ map_push single singles s)
    ∙ ap (λ t. t || is_left_out parts c) (left_out-behind (map single singles) (single s) c)
    ∙ turned (is_left_out (map single singles) c) (is_inside (single s) c) (is_left_out parts c)
    ∙ ap (λ t. t || is_inside (single s) c) (sym (left_parts singles parts c))

-- .. and one other part
pub left-part : (singles : List Cut) (parts new : List PackedRange) (b : PackedRange) → new ≡ parts ++ b ∷ [] → (c : Cut) →
    is_left_out (all_parts singles new) c ≡ (is_left_out (all_parts singles parts) c || is_inside b c)
left-part singles parts new b e c =
    left_parts singles new c
    ∙ ap (λ xs. is_left_out (map single singles) c || is_left_out xs c) e
    ∙ ap (λ t. is_left_out (map single singles) c || t) (left_out-behind parts b c)
    ∙ sym (or_assoc (is_left_out (map single singles) c) (is_left_out parts c) (is_inside b c))
    ∙ ap (λ t. t || is_inside b c) (sym (left_parts singles parts c))

-- other lists of which the same is left out
pub same-singles : (singles others : List Cut) (parts : List PackedRange) →
    ((c : Cut) → is_left_out (map single others) c ≡ is_left_out (map single singles) c) → (c : Cut) →
    is_left_out (all_parts others parts) c ≡ is_left_out (all_parts singles parts) c
same-singles singles others parts same c =
    left_parts others parts c ∙ ap (λ t. t || is_left_out parts c) (same c) ∙ sym (left_parts singles parts c)

pub same-rest : (singles : List Cut) (parts rest : List PackedRange) →
    ((c : Cut) → is_left_out rest c ≡ is_left_out parts c) → (c : Cut) →
    is_left_out (all_parts singles rest) c ≡ is_left_out (all_parts singles parts) c
same-rest singles parts rest same c =
    left_parts singles rest c ∙ ap (λ t. is_left_out (map single singles) c || t) (same c) ∙ sym (left_parts singles parts c)

-- .. and of the second one more
pub more-rest : (singles others : List Cut) (parts rest : List PackedRange) (more : Cut → Bool) →
    ((c : Cut) → is_left_out (map single others) c ≡ is_left_out (map single singles) c) →
    ((c : Cut) → is_left_out rest c ≡ (is_left_out parts c || more c)) → (c : Cut) →
    is_left_out (all_parts others rest) c ≡ (is_left_out (all_parts singles parts) c || more c)
more-rest singles others parts rest more same and_more c =
    left_parts others rest c
    ∙ (λ i. same c i || and_more c i)
    ∙ sym (or_assoc (is_left_out (map single singles) c) (is_left_out parts c) (more c))
    ∙ ap (λ t. t || more c) (sym (left_parts singles parts c))

-- ---- lists that fall

module _ {X : Type 0} (begin : X → Cut) where
  pub falling-front : (xs front : List X) (x : X) → xs ≡ front ++ x ∷ [] → IsFalling begin xs → IsFalling begin front
  falling-front xs front x e h i j d le lt =
      let short : length front < length xs = rw e (omega (arith, length-append {A = X})) in
      ap is_lt (λ k. cut_cmp (begin (sym (at i (omega (arith, le, lt))) k)) (begin (sym (at j lt) k)))
      ∙ h i j d le (omega (arith, lt, short))
    where
      at : (k : ℕ) → k < length front → get_or xs k d ≡ get_or front k d
      at k lt = ap (λ ys. get_or ys k d) e ∙ get_or_append_left front (x ∷ []) d k lt

  -- none of the others begins below the last
  pub falling-last : (xs front : List X) (x : X) → xs ≡ front ++ x ∷ [] → IsFalling begin xs →
      All (λ y. is_below (begin y) (begin x) ≡ false) front
  falling-last xs front x e h k d lt =
      let short : length front < length xs = rw e (omega (arith, length-append {A = X})) in
      ap is_lt (λ i. cut_cmp (begin (sym other i)) (begin (sym last i))) ∙ h k (length front) d (omega (arith, lt)) short
    where
      other : get_or xs k d ≡ get_or front k d
      other = ap (λ ys. get_or ys k d) e ∙ get_or_append_left front (x ∷ []) d k lt

      last : get_or xs (length front) d ≡ x
      last = ap (λ ys. get_or ys (length front) d) e ∙ get_or-append_seam front x [] d

  falling-rest : (x : X) (xs : List X) → IsFalling begin (x ∷ xs) → IsFalling begin xs
  falling-rest x xs h i j d le lt = h (suc i) (suc j) d (omega (arith, le)) (omega (arith, lt))

  falling-first : (x : X) (xs : List X) → IsFalling begin (x ∷ xs) → All (λ y. is_below (begin x) (begin y) ≡ false) xs
  falling-first x xs h k d lt = h zero (suc k) d (omega arith) (omega (arith, lt))

  falling-more : (x : X) (xs : List X) → All (λ y. is_below (begin x) (begin y) ≡ false) xs → IsFalling begin xs →
      IsFalling begin (x ∷ xs)
  falling-more x xs g h zero zero d le lt = not_below_itself cut_total (begin x)
  falling-more x xs g h zero (suc j) d le lt = g j d (omega (arith, lt))
  falling-more x xs g h (suc i) zero d le lt = absurd (omega (arith, le))
  falling-more x xs g h (suc i) (suc j) d le lt = h i j d (omega (arith, le)) (omega (arith, lt))

  module _ (E : X → X → Bool) where
    by_test : (t : Bool) (us vs : List X) → IsFalling begin us → IsFalling begin vs → IsFalling begin (cond t us vs)
    by_test true us vs g h = g
    by_test false us vs g h = h

    falling-from : (xs : List X) (x : X) → IsFalling begin (x ∷ xs) → IsFalling begin (dedup_from E x xs)
    falling-from [] x h = h
    falling-from (y ∷ xs) x h =
        let rest = falling-rest x (y ∷ xs) h in
        let first = falling-first x (y ∷ xs) h in
        by_test (E y x) (dedup_from E x xs) (x ∷ dedup_from E y xs)
        (falling-from xs x (falling-more x xs (All-tail (λ z. is_below (begin x) (begin z) ≡ false) y xs first)
        (falling-rest y xs rest)))
        (falling-more x (dedup_from E y xs) (All-dedup E (λ z. is_below (begin x) (begin z) ≡ false) (y ∷ xs) first)
        (falling-from xs y rest))

    pub falling-dedup : (xs : List X) → IsFalling begin xs → IsFalling begin (dedup E xs)
    falling-dedup [] h = h
    falling-dedup (x ∷ xs) h = falling-from xs x h

-- ---- repeats that are dropped

abbrev same_cut : Cut → Cut → Bool
same_cut = eq_by_cmp cut_cmp

equal_told : (r : Ordering) → is_eq r ≡ true → r ≡ Equal
equal_told Less e = cc e
equal_told Equal e = refl
equal_told Greater e = cc e

one_packed_cut : (x y : Cut) → IsSingle x → IsSingle y → same_cut x y ≡ true → x ≡ y
one_packed_cut x y h g e = one-cut x y h.part.low g.part.low (equal_told (cut_cmp x y) e)

any_dropped : (p : PackedRange → Bool) (x y : Cut) (xs us vs : List Cut) (t : Bool) → (t ≡ true → x ≡ y) →
    list_any p (map single us) ≡ list_any p (map single (y ∷ xs)) →
    list_any p (map single vs) ≡ list_any p (map single (x ∷ xs)) →
    list_any p (map single (cond t us (y ∷ vs))) ≡ list_any p (map single (y ∷ x ∷ xs))
any_dropped p x y xs us vs true e f g =
    f ∙ again (p (single y)) (list_any p (map single xs))
    ∙ (λ i. p (single y) || (p (single (sym (e refl) i)) || list_any p (map single xs)))
  where
    again : (a b : Bool) → (a || b) ≡ (a || (a || b))
    again true b = refl
    again false b = refl
any_dropped p x y xs us vs false e f g = ap (λ t. p (single y) || t) g

any-from : (p : PackedRange → Bool) (xs : List Cut) (y : Cut) → IsSingle y → All IsSingle xs →
    list_any p (map single (dedup_from same_cut y xs)) ≡ list_any p (map single (y ∷ xs))
any-from p [] y is are = refl
any-from p (x ∷ xs) y is are =
    let first = All-head IsSingle x xs are in
    let rest = All-tail IsSingle x xs are in
    any_dropped p x y xs (dedup_from same_cut y xs) (dedup_from same_cut x xs) (same_cut x y) (one_packed_cut x y first is)
    (any-from p xs y is rest) (any-from p xs x first rest)

any-dedup : (p : PackedRange → Bool) (xs : List Cut) → All IsSingle xs →
    list_any p (map single (dedup same_cut xs)) ≡ list_any p (map single xs)
any-dedup p [] are = refl
any-dedup p (x ∷ xs) are = any-from p xs x (All-head IsSingle x xs are) (All-tail IsSingle x xs are)

-- what `dedup` leaves of a list that falls
pub record IsOneEach (xs ys : List Cut) : Type 0 where
  pub points : (c : Cut) → is_left_out (map single ys) c ≡ is_left_out (map single xs) c
  pub singles : All IsSingle ys
  pub falling : IsFalling itself xs → IsFalling itself ys

pub one_each : (xs ys : List Cut) → All IsSingle xs → IsFiltered (DiffersFromLast (eq_by_cmp cut_cmp)) [] xs ys → IsOneEach xs ys
one_each xs ys are h = rw (dedup_is (eq_by_cmp cut_cmp) xs ys h) (record {
  points = λ c. any-dedup (λ b. is_inside b c) xs are;
  singles = All-dedup (eq_by_cmp cut_cmp) IsSingle xs are;
  falling = falling-dedup itself (eq_by_cmp cut_cmp) xs;
})

-- ---- the part that begins first

pub take-part : (singles : List Cut) (parts rest : List PackedRange) (b : PackedRange) → AreFalling singles parts →
    parts ≡ rest ++ b ∷ [] → All (λ c. is_below c b.low ≡ false) singles → TakesFirst singles parts singles rest b
take-part singles parts rest b h e low =
    let split = All-pop IsPart parts rest (Some b) e h.parts_are in record {
      points = left-part singles rest parts b e;
      part = split.1;
      first = All-append (λ p. is_below p.low b.low ≡ false) (map single singles) rest
          (All-map (λ p. is_below p.low b.low ≡ false) single singles low)
          (falling-last low_of parts rest b e h.parts_fall);
      left = record {
        singles_fall = h.singles_fall;
        parts_fall = falling-front low_of parts rest b e h.parts_fall;
        singles_are = h.singles_are;
        parts_are = split.0;
      };
      fewer = rw e (omega (arith, length-append {A = PackedRange}));
    }

pub take-single : (singles others : List Cut) (parts : List PackedRange) (s : Cut) → AreFalling singles parts →
    singles ≡ others ++ s ∷ [] → All (λ b. is_below b.low s ≡ false) parts → TakesFirst singles parts others parts (single s)
take-single singles others parts s h e low =
    let split = All-pop IsSingle singles others (Some s) e h.singles_are in record {
      points = left-single others singles parts s e;
      part = split.1.part;
      first = All-append (λ p. is_below p.low s ≡ false) (map single others) parts
          (All-map (λ p. is_below p.low s ≡ false) single others (falling-last itself singles others s e h.singles_fall))
          low;
      left = record {
        singles_fall = falling-front itself singles others s e h.singles_fall;
        parts_fall = h.parts_fall;
        singles_are = split.0;
        parts_are = h.parts_are;
      };
      fewer = rw e (omega (arith, length-append {A = Cut}));
    }

-- ---- which list has it

-- what is not below one packed cut, which is not below another, is not below that
not_below-chain : (x y z : Cut) → is_below x y ≡ false → is_below y z ≡ false → is_below x z ≡ false
not_below-chain x y z h g = by (is_below x z) refl
  where
    by : (t : Bool) → is_below x z ≡ t → is_below x z ≡ false
    by false e = e
    by true e =
        let below : is_below x y ≡ true = ap is_lt (below-not_above cut_total x z y (less_told _ e) g) in
        cc (below, h)

-- .. nor is what is not below one packed cut below what is below that
not_below-lower : (x y z : Cut) → is_below x z ≡ false → is_below y z ≡ true → is_below x y ≡ false
not_below-lower x y z h e =
    not_turned cut_total y x (below-not_above cut_total y z x (less_told _ e) h)

-- the last element
last-of : {X : Type 0} (xs front : List X) (x y : X) → slice_get xs (length xs - 1) ≡ Some x → xs ≡ front ++ y ∷ [] → x ≡ y
last-of {X} xs front x y h e = sym own ∙ ap (λ ys. get_or ys (length xs - 1) x) e ∙ at ∙ get_or-append_seam front y [] x
  where
    own : get_or xs (length xs - 1) x ≡ x
    own = get_or_from_slice_get xs (length xs - 1) x x h

    at : get_or (front ++ y ∷ []) (length xs - 1) x ≡ get_or (front ++ y ∷ []) (length front) x
    at = ap (λ n. get_or (front ++ y ∷ []) n x) (rw e (omega (arith, length-append {A = X})))

-- .. of a list that falls begins above no other
pub falling-least : {X : Type 0} (begin : X → Cut) (xs : List X) (x : X) → IsFalling begin xs →
    slice_get xs (length xs - 1) ≡ Some x → All (λ y. is_below (begin y) (begin x) ≡ false) xs
falling-least begin xs x h e k d lt =
    let at : get_or xs (length xs - 1) x ≡ x = get_or_from_slice_get xs (length xs - 1) x x e in
    let order : k ≤ length xs - 1 = omega (arith, lt) in
    let short : length xs - 1 < length xs = omega (arith, lt) in
    ap is_lt (λ i. cut_cmp (begin (same i)) (begin (sym at i))) ∙ h k (length xs - 1) x order short
  where
    same : get_or xs k d ≡ get_or xs k x
    same = get_or_default xs k d x lt

pub part-before : (singles : List Cut) (parts rest : List PackedRange) (s : Cut) (p b : PackedRange) → IsFalling itself singles →
    slice_get singles (length singles - 1) ≡ Some s → slice_get parts (length parts - 1) ≡ Some p →
    is_below p.low s ≡ true → parts ≡ rest ++ b ∷ [] → All (λ c. is_below c b.low ≡ false) singles
part-before singles parts rest s p b h last_single last_part below e k d lt =
    ap (λ x. is_below (get_or singles k d) x.low) (sym (last-of parts rest p b last_part e))
    ∙ not_below-lower (get_or singles k d) p.low s (falling-least itself singles s h last_single k d lt) below

pub single-before : (singles others : List Cut) (parts : List PackedRange) (s c : Cut) (p : PackedRange) → IsFalling low_of parts →
    slice_get singles (length singles - 1) ≡ Some s → slice_get parts (length parts - 1) ≡ Some p →
    is_below p.low s ≡ false → singles ≡ others ++ c ∷ [] → All (λ b. is_below b.low c ≡ false) parts
single-before singles others parts s c p h last_single last_part below e k d lt =
    ap (λ x. is_below (get_or parts k d).low x) (sym (last-of singles others s c last_single e))
    ∙ not_below-chain (get_or parts k d).low p.low s (falling-least low_of parts p h last_part k d lt) below

-- ---- what the calls of lists tell

pub singles_permuted : (xs ys : List Cut) → IsPermutation xs ys → (c : Cut) →
    is_left_out (map single ys) c ≡ is_left_out (map single xs) c
singles_permuted xs ys p c =
    list_any-map (λ b. is_inside b c) single ys
    ∙ sym (list_any-IsPermutation (λ s. is_inside (single s) c) xs ys p)
    ∙ sym (list_any-map (λ b. is_inside b c) single xs)

pub taken-part : (singles : List Cut) (parts rest : List PackedRange) (found : Option PackedRange) → AreFalling singles parts →
    parts ≡ rest ++ option_to_list found →
    ((b : PackedRange) (others : List PackedRange) → parts ≡ others ++ b ∷ [] → All (λ c. is_below c b.low ≡ false) singles) →
    IfSome found (TakesFirst singles parts singles rest)
taken-part singles parts rest None h e before = tt
taken-part singles parts rest (Some b) h e before = take-part singles parts rest b h e (before b rest e)

pub popped_is_single : (singles others : List Cut) (parts : List PackedRange) (s : Cut) → AreFalling singles parts →
    singles ≡ others ++ s ∷ [] → IsSingle s
popped_is_single singles others parts s h e = (All-pop IsSingle singles others (Some s) e h.singles_are).1
