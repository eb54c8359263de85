-- Places in any total order: chains of "below" and "not below", the later and the earlier of two
-- places, and what lies between two places.
use Rattle.std.proofs.Common.{◌≡◌, ◌&&◌, Bool, true, false, not, refl, sym, ap, ◌∙◌}
use Rattle.std.specs.Cmp.{IsTotalOrder, alike_right, tied_itself}
use Rattle.std.specs.Ordering.{is_lt, ordering_reverse}
use Rattle.std.specs.Prelude.{if◌then◌else◌}
use Rattle.std.specs.declared.cmp.Ordering.{Ordering}
use Rattle.std.specs.declared.cmp.Ordering.TheVariants.{Less, Equal, Greater}
use Rattle.pep_clause.specs.Way.Joined.{earlier, later}
use Rattle.texts.proofs.Connectives.{and_given, and_given_second, and_not_given, not_given}
use Rattle.texts.proofs.Connectives.{not_given_second}

pub less_told : (r : Ordering) → is_lt r ≡ true → r ≡ Less
less_told Less e = refl
less_told Equal e = cc e
less_told Greater e = cc e

-- not below, in two cases
not_less_cases : {G : Type 0} (r : Ordering) → is_lt r ≡ false → (r ≡ Equal → G) →
    (r ≡ Greater → G) → G
not_less_cases Less e f g = cc e
not_less_cases Equal e f g = f refl
not_less_cases Greater e f g = g refl

-- neither is below the other
pub tied_told : (r s : Ordering) → r ≡ ordering_reverse s → is_lt r ≡ false → is_lt s ≡ false →
    r ≡ Equal
tied_told Less s e f g = cc f
tied_told Equal s e f g = refl
tied_told Greater Less e f g = cc g
tied_told Greater Equal e f g = cc e
tied_told Greater Greater e f g = cc e

-- below the high place, and not below the low one
abbrev pub is_between : {K : Type 0} → (K → K → Ordering) → K → K → K → Bool
is_between R low high c = is_lt (R c high) && not (is_lt (R c low))

module _ {K : Type 0} {R : K → K → Ordering} (o : IsTotalOrder R) where
  turned_less : (x y : K) → R x y ≡ Greater → R y x ≡ Less
  turned_less x y e = o.antisymm y x ∙ ap ordering_reverse e

  -- x is not above y, and y is below z
  pub not_above-below : (x y z : K) → is_lt (R y x) ≡ false → R y z ≡ Less → R x z ≡ Less
  not_above-below x y z h e =
      not_less_cases (R y x) h (λ t. sym (o.congr y x z t)
      ∙ e) (λ g. o.trans x y z (turned_less y x g) e)

  -- x is below y, and y is not above z
  pub below-not_above : (x y z : K) → R x y ≡ Less → is_lt (R z y) ≡ false → R x z ≡ Less
  below-not_above x y z e h =
      not_less_cases (R z y) h (λ t. alike_right o z y x t
      ∙ e) (λ g. o.trans x y z e (turned_less z y g))

  -- the same with tests
  pub chained_below : (x y z : K) → R x y ≡ Less → is_lt (R y z) ≡ true → is_lt (R x z) ≡ true
  chained_below x y z e f = ap is_lt (o.trans x y z e (less_told (R y z) f))

  pub not_below_itself : (x : K) → is_lt (R x x) ≡ false
  not_below_itself x = ap is_lt (tied_itself o x)

  -- what is below a place is not above it
  pub not_turned : (x y : K) → R x y ≡ Less → is_lt (R y x) ≡ false
  not_turned x y e = ap is_lt (o.antisymm y x ∙ ap ordering_reverse e)

  -- what is not above a place that is below another is below the other
  pub not_above-test : (x y z : K) → is_lt (R y x) ≡ false → is_lt (R y z) ≡ true →
      is_lt (R x z) ≡ true
  not_above-test x y z h f = ap is_lt (not_above-below x y z h (less_told (R y z) f))

  -- below the earlier of two places is below both
  earlier_by : (b : Bool) (c x y : K) → is_lt (R x y) ≡ b
      → is_lt (R c (if b then x else y)) ≡ (is_lt (R c x) && is_lt (R c y))
  earlier_by true c x y e =
      and_given (is_lt (R c x)) (is_lt (R c y)) (λ f. ap is_lt
      (o.trans c x y (less_told _ f) (less_told _ e)))
  earlier_by false c x y e =
      and_given_second (is_lt (R c x)) (is_lt (R c y)) (λ f.
      ap is_lt (below-not_above c y x (less_told _ f) e))

  pub below-earlier : (c x y : K) → is_lt (R c (earlier R x y)) ≡ (is_lt (R c x) && is_lt (R c y))
  below-earlier c x y = earlier_by (is_lt (R x y)) c x y refl

  -- not below the later of two places is below neither
  later_by : (b : Bool) (c x y : K) → is_lt (R x y) ≡ b
      → not (is_lt (R c (if b then y else x))) ≡ (not (is_lt (R c x)) && not (is_lt (R c y)))
  later_by true c x y e =
      not_given_second (is_lt (R c x)) (is_lt (R c y)) (λ f.
      ap is_lt (o.trans c x y (less_told _ f) (less_told _ e)))
  later_by false c x y e =
      not_given (is_lt (R c x)) (is_lt (R c y)) (λ f. ap is_lt
      (below-not_above c y x (less_told _ f) e))

  pub not_below-later : (c x y : K) → not (is_lt (R c (later R x y)))
      ≡ (not (is_lt (R c x)) && not (is_lt (R c y)))
  not_below-later c x y = later_by (is_lt (R x y)) c x y refl

  -- nothing lies between places that are not in order
  pub none_between : (low high c : K) → is_lt (R low high) ≡ false → is_between R low high c ≡ false
  none_between low high c h =
      and_not_given (is_lt (R c high)) (is_lt (R c low)) (λ f.
      ap is_lt (below-not_above c high low (less_told _ f) h))

  -- the later of two places is not above a place that neither is above; the earlier is above none
  -- that either is not above
  later_above_by : (b : Bool) (p x y : K) → R p x ≡ Less → R p y ≡ Less →
      R p (if b then y else x) ≡ Less
  later_above_by true p x y e f = f
  later_above_by false p x y e f = e

  later_first_by : (b : Bool) (p x y : K) → is_lt (R x y) ≡ b → R p x ≡ Less →
      R p (if b then y else x) ≡ Less
  later_first_by true p x y e f = o.trans p x y f (less_told _ e)
  later_first_by false p x y e f = f

  later_second_by : (b : Bool) (p x y : K) → is_lt (R x y) ≡ b → R p y ≡ Less →
      R p (if b then y else x) ≡ Less
  later_second_by true p x y e f = f
  later_second_by false p x y e f = below-not_above p y x f e

  -- a place below one of two is below the later
  pub below-later_first : (p x y : K) → R p x ≡ Less → R p (later R x y) ≡ Less
  below-later_first p x y f = later_first_by (is_lt (R x y)) p x y refl f

  pub below-later_second : (p x y : K) → R p y ≡ Less → R p (later R x y) ≡ Less
  below-later_second p x y f = later_second_by (is_lt (R x y)) p x y refl f

  earlier_first_by : (b : Bool) (x y : K) → is_lt (R x y) ≡ b →
      is_lt (R x (if b then x else y)) ≡ false
  earlier_first_by true x y e = not_below_itself x
  earlier_first_by false x y e = e

  earlier_second_by : (b : Bool) (x y : K) → is_lt (R x y) ≡ b →
      is_lt (R y (if b then x else y)) ≡ false
  earlier_second_by true x y e = not_turned x y (less_told _ e)
  earlier_second_by false x y e = not_below_itself y

  -- the earlier of two places is above neither
  pub earlier-not_above_first : (x y : K) → is_lt (R x (earlier R x y)) ≡ false
  earlier-not_above_first x y = earlier_first_by (is_lt (R x y)) x y refl

  pub earlier-not_above_second : (x y : K) → is_lt (R y (earlier R x y)) ≡ false
  earlier-not_above_second x y = earlier_second_by (is_lt (R x y)) x y refl

-- a property of both places is one of the later and of the earlier
pub later-keeps : {K : Type 0} (P : K → Type 0) (b : Bool) (x y : K) → P x → P y →
    P (if b then y else x)
later-keeps P true x y p q = q
later-keeps P false x y p q = p

pub earlier-keeps : {K : Type 0} (P : K → Type 0) (b : Bool) (x y : K) → P x → P y →
    P (if b then x else y)
earlier-keeps P true x y p q = p
earlier-keeps P false x y p q = q
