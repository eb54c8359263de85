-- What parts leave over of all versions: the cuts in it, and parts that are joined.
use Rattle.std.proofs.Common.{◌≡◌, ◌&&◌, ◌||◌, Bool, true, false, not, List, [], ◌∷◌, ◌++◌, refl, sym, ap, ◌∙◌, arith, length}
use Rattle.std.specs.Prelude.{◌≢◌, All, Some}
use Rattle.std.specs.declared.cmp.Ordering.{Ordering}
use Rattle.std.specs.declared.cmp.Ordering.TheVariants.{Less, Equal, Greater}
use Rattle.std.specs.Ordering.{is_lt}
use Rattle.std.specs.List.Sorted.{IsPermutation}
use Rattle.std.proofs.lemmas.List.Elements.{All-head, All-nil, All-pop, All-push, All-tail}
use Rattle.std.proofs.lemmas.List.Folds.{list_any-append}
use Rattle.std.proofs.lemmas.List.Sorted.{All-permutation, list_any-IsPermutation}
use Rattle.texts.proofs.Connectives.{and-true, and_parts, not-true, or-false, or_assoc}
use Rattle.pep_clause.specs.Cut.{Cut, IsCut, cut_cmp, end, least}
use Rattle.pep_clause.specs.Way.Joined.{later}
use Rattle.pep_clause.specs.Laws.{cut_total}
use Rattle.pep_clause.specs.OperatorTable.{outside, range}
use Rattle.pep_clause.specs.VersionSet.{IsNormal, Range, all_versions, is_point}
use Rattle.pep_clause.proofs.Between.{below-later_first, below-not_above, is_between, later-keeps, less_told, none_between, not_below-later, not_below_itself}
use Rattle.pep_clause.proofs.JoinedPoints.{is_point-append, is_point-joined, is_point-range}
use Rattle.pep_clause.proofs.LeastCut.{IsNormal-all_versions, end-below_none, none-below_least, point-all_versions}
use Rattle.pep_clause.proofs.NormalJoined.{IsNormal-joined}
use Rattle.pep_clause.proofs.RangeRows.{IsNormal-outside}
use Rattle.packed_cuts.specs.Way.LeftOut.{IsPart, is_left_out, left_over, meets}
use Rattle.packed_cuts.specs.declared.packed_range.PackedRange.{PackedRange}

abbrev pub is_below : Cut → Cut → Bool
is_below c d = is_lt (cut_cmp c d)

abbrev pub is_inside : PackedRange → Cut → Bool
is_inside b c = is_between cut_cmp b.low b.high c

-- ---- cuts that are left over

pub all_points : (c : Cut) → is_point all_versions c ≡ is_below c end
all_points c =
    (λ i. (is_below c end && not (none-below_least c i)) || false)
    ∙ or-false (is_below c end && true) ∙ and-true (is_below c end)

pub outside_points : (low high c : Cut) →
    is_point (outside low high) c ≡ ((is_below c low && true) || (is_below c end && not (is_below c high)))
outside_points low high c =
    is_point-append (range least low) (range high end) c
    ∙ (λ i. is_point-range least low c i || is_point-range high end c i)
    ∙ (λ i. (is_below c low && not (none-below_least c i)) || (is_below c end && not (is_below c high)))

one_more : (low high e others : Bool) →
    (((low && true) || (e && not high)) && (e && not others)) ≡ (e && not ((high && not low) || others))
one_more true high false others = refl
one_more false high false others = refl
one_more true true true others = refl
one_more true false true others = refl
one_more false true true others = refl
one_more false false true others = refl

-- below the end, and in no part
pub left_points : (parts : List PackedRange) (c : Cut) →
    is_point (left_over parts) c ≡ (is_below c end && not (is_left_out parts c))
left_points [] c = all_points c ∙ sym (and-true (is_below c end))
left_points (b ∷ rest) c =
    is_point-joined (outside b.low b.high) (left_over rest) c
    ∙ (λ i. outside_points b.low b.high c i && left_points rest c i)
    ∙ one_more (is_below c b.low) (is_below c b.high) (is_below c end) (is_left_out rest c)

pub left_normal : (parts : List PackedRange) → All IsPart parts → IsNormal (left_over parts)
left_normal [] h = IsNormal-all_versions
left_normal (b ∷ rest) h =
    let first = All-head IsPart b rest h in
    IsNormal-joined (outside b.low b.high) (left_over rest)
    (IsNormal-outside b.low b.high first.low first.high first.in_order)
    (left_normal rest (All-tail IsPart b rest h))

-- ---- one part more, and parts of which the same is left out

pub left_out-behind : (parts : List PackedRange) (b : PackedRange) (c : Cut) →
    is_left_out (parts ++ b ∷ []) c ≡ (is_left_out parts c || is_inside b c)
left_out-behind parts b c =
    list_any-append (λ p. is_inside p c) parts (b ∷ [])
    ∙ ap (λ t. is_left_out parts c || t) (or-false (is_inside b c))

one_behind : (low high e others : Bool) →
    (e && not (others || (high && not low))) ≡ ((e && not others) && ((low && true) || (e && not high)))
one_behind low high false others = refl
one_behind low high true true = refl
one_behind true true true false = refl
one_behind true false true false = refl
one_behind false true true false = refl
one_behind false false true false = refl

pub points-behind : (old new : List PackedRange) (b : PackedRange) →
    ((c : Cut) → is_left_out new c ≡ (is_left_out old c || is_inside b c)) → (c : Cut) →
    is_point (left_over new) c ≡ (is_point (left_over old) c && is_point (outside b.low b.high) c)
points-behind old new b more c =
    left_points new c
    ∙ (λ i. is_below c end && not (more c i))
    ∙ one_behind (is_below c b.low) (is_below c b.high) (is_below c end) (is_left_out old c)
    ∙ (λ i. sym (left_points old c) i && sym (outside_points b.low b.high c) i)

pub same_left : (old new : List PackedRange) → ((c : Cut) → is_left_out new c ≡ is_left_out old c) → (c : Cut) →
    is_point (left_over new) c ≡ is_point (left_over old) c
same_left old new same c =
    left_points new c ∙ (λ i. is_below c end && not (same c i)) ∙ sym (left_points old c)

-- what is outside two cuts that are not in order is everything
none_out : (point low high e : Bool) → (point ≡ true → e ≡ true) → (high && not low) ≡ false →
    point ≡ (point && ((low && true) || (e && not high)))
none_out false low high e g h = refl
none_out true low high false g h = cc (g refl)
none_out true true high true g h = refl
none_out true false true true g h = cc h
none_out true false false true g h = refl

pub points-none : (ranges : List Range) (b : PackedRange) → is_below b.low b.high ≡ false → (c : Cut) →
    is_point ranges c ≡ (is_point ranges c && is_point (outside b.low b.high) c)
points-none ranges b h c =
    none_out (is_point ranges c) (is_below c b.low) (is_below c b.high) (is_below c end)
    (λ t. sym (all_points c) ∙ point-all_versions ranges c t)
    (none_between cut_total b.low b.high c h)
    ∙ (λ i. is_point ranges c && sym (outside_points b.low b.high c) i)

pub permuted : (xs ys : List PackedRange) → IsPermutation xs ys → (c : Cut) → is_left_out ys c ≡ is_left_out xs c
permuted xs ys p c = sym (list_any-IsPermutation (λ b. is_inside b c) xs ys p)

-- ---- two parts that meet

either_of : (later first second : Bool) → not later ≡ (not first && not second) → later ≡ (first || second)
either_of true true second h = refl
either_of true false true h = refl
either_of true false false h = cc h
either_of false true second h = cc h
either_of false false true h = cc h
either_of false false false h = refl

in_either : (low high next last : Bool) → (low ≡ true → next ≡ true) → (next ≡ true → high ≡ true) →
    ((high || last) && not low) ≡ ((high && not low) || (last && not next))
in_either true high false last h g = cc (h refl)
in_either true true true true h g = refl
in_either true true true false h g = refl
in_either true false true last h g = cc (g refl)
in_either false true next last h g = refl
in_either false false true last h g = cc (g refl)
in_either false false false true h g = refl
in_either false false false false h g = refl

abbrev pub joined_part : PackedRange → PackedRange → PackedRange
joined_part a b = record { low = a.low; high = later cut_cmp a.high b.high }

joined_points : (a b : PackedRange) → meets a b ≡ true → (c : Cut) →
    is_inside (joined_part a b) c ≡ (is_inside a c || is_inside b c)
joined_points a b m c =
    let tests = and_parts (not (is_below b.low a.low)) (not (is_below a.high b.low)) m in
    ap (λ t. t && not (is_below c a.low))
    (either_of (is_below c (later cut_cmp a.high b.high)) (is_below c a.high) (is_below c b.high)
    (not_below-later cut_total c a.high b.high))
    ∙ in_either (is_below c a.low) (is_below c a.high) (is_below c b.low) (is_below c b.high)
    (λ t. ap is_lt (below-not_above cut_total c a.low b.low (less_told _ t) (not-true (is_below b.low a.low) tests.0)))
    (λ t. ap is_lt (below-not_above cut_total c b.low a.high (less_told _ t) (not-true (is_below a.high b.low) tests.1)))

pub joined_part-is : (a b : PackedRange) → IsPart a → IsPart b → IsPart (joined_part a b)
joined_part-is a b p q = record {
  in_order = below-later_first cut_total a.low a.high b.high p.in_order;
  low = p.low;
  high = later-keeps IsCut (is_below a.high b.high) a.high b.high p.high q.high;
}

-- where the last part is joined with one more
pub put_joined : (old front new : List PackedRange) (a b : PackedRange) → old ≡ front ++ a ∷ [] →
    new ≡ front ++ joined_part a b ∷ [] → meets a b ≡ true → (c : Cut) →
    is_left_out new c ≡ (is_left_out old c || is_inside b c)
put_joined old front new a b e f m c =
    (λ i. is_left_out (f i) c)
    ∙ left_out-behind front (joined_part a b) c
    ∙ ap (λ t. is_left_out front c || t) (joined_points a b m c)
    ∙ sym (or_assoc (is_left_out front c) (is_inside a c) (is_inside b c))
    ∙ (λ i. sym (left_out-behind front a c) i || is_inside b c)
    ∙ (λ i. is_left_out (sym e i) c || is_inside b c)

pub put_joined_are : (old front new : List PackedRange) (a b : PackedRange) → old ≡ front ++ a ∷ [] →
    new ≡ front ++ joined_part a b ∷ [] → All IsPart old → IsPart b → All IsPart new
put_joined_are old front new a b e f h p =
    let parts = All-pop IsPart old front (Some a) e h in
    rw f (All-push IsPart front (joined_part a b) parts.0 (joined_part-is a b parts.1 p))

-- ---- the loop that joins them

-- what is joined and what is left leave out what all do
pub record JoinsParts (all joined left : List PackedRange) : Type 0 where
  pub points : (c : Cut) → (is_left_out joined c || is_left_out left c) ≡ is_left_out all c
  pub joined_are : All IsPart joined
  pub left_are : All IsPart left

next_part : (j p l : Bool) → ((j || p) || l) ≡ (j || (l || p))
next_part true p l = refl
next_part false true true = refl
next_part false true false = refl
next_part false false true = refl
next_part false false false = refl

pub joins_next : (all joined left rest new : List PackedRange) (b : PackedRange) → JoinsParts all joined left →
    left ≡ rest ++ b ∷ [] → ((c : Cut) → is_left_out new c ≡ (is_left_out joined c || is_inside b c)) →
    All IsPart new → JoinsParts all new rest
joins_next all joined left rest new b h e put are = record {
  points = λ c. ap (λ t. t || is_left_out rest c) (put c)
      ∙ next_part (is_left_out joined c) (is_inside b c) (is_left_out rest c)
      ∙ ap (λ t. is_left_out joined c || t)
      (sym (left_out-behind rest b c) ∙ (λ i. is_left_out (sym e i) c))
      ∙ h.points c;
  joined_are = are;
  left_are = (All-pop IsPart left rest (Some b) e h.left_are).0;
}

pub joins_first : (parts left joined : List PackedRange) → joined ≡ [] → All IsPart parts → IsPermutation parts left →
    JoinsParts parts joined left
joins_first parts left joined e h p = record {
  points = λ c. (λ i. is_left_out (e i) c || is_left_out left c)
      ∙ permuted parts left p c;
  joined_are = rw e (All-nil IsPart);
  left_are = All-permutation IsPart parts left p h;
}

pub joined_all : (all joined left : List PackedRange) → length left ≡ 0 → JoinsParts all joined left → (c : Cut) →
    is_left_out joined c ≡ is_left_out all c
joined_all all joined [] e h c = sym (or-false (is_left_out joined c)) ∙ h.points c
joined_all all joined (b ∷ rest) e h c = absurd (omega (arith, e))

-- what isn't below
pub not_below : (c d : Cut) → cut_cmp c d ≢ Less → is_below c d ≡ false
not_below c d other = by (cut_cmp c d) other
  where
    by : (r : Ordering) → r ≢ Less → is_lt r ≡ false
    by Less f = absurd (f refl)
    by Equal f = refl
    by Greater f = refl

-- ---- where nothing is left out

own_low : (b : PackedRange) (rest : List PackedRange) → IsPart b → is_left_out (b ∷ rest) b.low ≡ true
own_low b rest p = rw (ap is_lt p.in_order, not_below_itself cut_total b.low) refl

pub nothing_out : (parts : List PackedRange) → All IsPart parts → left_over parts ≡ all_versions → length parts ≡ 0
nothing_out [] h e = refl
nothing_out (b ∷ rest) h e =
    let p = All-head IsPart b rest h in
    let end_above : is_below b.low end ≡ true = ap is_lt (below-not_above cut_total b.low b.high end p.in_order (end-below_none b.high)) in
    let inside : is_point (left_over (b ∷ rest)) b.low ≡ true =
    ap (λ ranges. is_point ranges b.low) e ∙ all_points b.low ∙ end_above in
    let outside : is_point (left_over (b ∷ rest)) b.low ≡ false =
    left_points (b ∷ rest) b.low ∙ (λ i. end_above i && not (own_low b rest p i)) in
    cc (inside, outside)

pub nothing_left : (parts : List PackedRange) → length parts ≡ 0 → left_over parts ≡ all_versions
nothing_left [] e = refl
nothing_left (b ∷ rest) e = absurd (omega (arith, e))
