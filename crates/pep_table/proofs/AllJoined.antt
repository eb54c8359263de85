-- Joining all items of a list to a start: the result is the least value that the start and the
-- items are below, so the order of the items, their grouping and their repeats do not count.
use Rattle.std.proofs.Common.{◌≡◌, List, [], ◌∷◌, refl, subst, sym, ◌∙◌}
use Rattle.std.proofs.lemmas.List.Elements.{All-cons, All-contains, All-head, All-nil, All-tail}
use Rattle.std.specs.List.{All, Contains}
use Rattle.std.specs.Prelude.{◌↔◌}
use Rattle.pep_require.proofs.Members.{in_first, in_none, in_rest}
use Rattle.demands.specs.Join.{IsJoin, JoinsAll}

module _ {X : Type 0} {IsValue : X → Type 0} {Joins : X → X → X → Type 0}
    (laws : IsJoin IsValue Joins) where
  -- the first stands below the second: joined to it, it changes nothing
  abbrev pub Below : X → X → Type 0
  Below a b = Joins a b b

  -- both joined values are below the join
  pub first_below : (a x b : X) → IsValue a → IsValue b → Joins a x b → Below a b
  first_below a x b v w h = laws.associative a a x a b b v w w (laws.idempotent a v) h h

  pub second_below : (a x b : X) → IsValue x → IsValue b → Joins a x b → Below x b
  second_below a x b v w h = first_below x a b v w (laws.commutative a x b h)

  pub below_trans : (a b c : X) → IsValue b → IsValue c → Below a b → Below b c → Below a c
  below_trans a b c v w h g = laws.associative a b c b c c v w w h g g

  -- and the join is the least such value
  pub join_least : (a x b d : X) → IsValue b → IsValue d → Joins a x b → Below a d → Below x d →
      Below b d
  join_least a x b d v w h f g =
      laws.commutative d b d
      (laws.associative d x a d b d w v w (laws.commutative x d d g) (laws.commutative a x b h)
      (laws.commutative a d d f))

  pub one_below : (b c : X) → IsValue b → IsValue c → Below b c → Below c b → b ≡ c
  one_below b c v w h g = laws.one c b b c v w g (laws.commutative b c c h)

  -- ---- the same of all items

  result_value : (a : X) (xs : List X) (b : X) → IsValue a → JoinsAll IsValue Joins a xs b →
      IsValue b
  result_value a [] b v h = subst IsValue h v
  result_value a (x ∷ xs) b v h = result_value h.0 xs b h.1 h.3

  start_below : (a : X) (xs : List X) (b : X) → IsValue a → JoinsAll IsValue Joins a xs b →
      Below a b
  start_below a [] b v h = subst (Below a) h (laws.idempotent a v)
  start_below a (x ∷ xs) b v h =
      let result = result_value h.0 xs b h.1 h.3 in
      below_trans a h.0 b h.1 result (first_below a x h.0 v h.1 h.2)
      (start_below h.0 xs b h.1 h.3)

  items_below : (a : X) (xs : List X) (b : X) → IsValue a → All IsValue xs →
      JoinsAll IsValue Joins a xs b → All (λ x. Below x b) xs
  items_below a [] b v vs h = All-nil (λ x. Below x b)
  items_below a (x ∷ xs) b v vs h = All-cons (λ x. Below x b) x xs
      (below_trans x h.0 b h.1 (result_value h.0 xs b h.1 h.3)
      (second_below a x h.0 (All-head IsValue x xs vs) h.1 h.2) (start_below h.0 xs b h.1 h.3))
      (items_below h.0 xs b h.1 (All-tail IsValue x xs vs) h.3)

  item_below : (a : X) (xs : List X) (b x : X) → IsValue a → All IsValue xs →
      JoinsAll IsValue Joins a xs b → Contains xs x → Below x b
  item_below a xs b x v vs h m =
      All-contains (λ y. Below y b) xs x (items_below a xs b v vs h) m

  least_of_all : (a : X) (xs : List X) (b d : X) → IsValue d → JoinsAll IsValue Joins a xs b →
      Below a d → ((x : X) → Contains xs x → Below x d) → Below b d
  least_of_all a [] b d w h f g = subst (λ y. Below y d) h f
  least_of_all a (x ∷ xs) b d w h f g =
      least_of_all h.0 xs b d w h.3 (join_least a x h.0 d h.1 w h.2 f (g x (in_first x xs x refl)))
      (λ y m. g y (in_rest x xs y m))

  -- lists of values with the same members, joined to one start, give one value
  values_alike : (a : X) (xs ys : List X) (b c : X) → IsValue a → All IsValue xs →
      All IsValue ys → ((x : X) → Contains xs x ↔ Contains ys x) → JoinsAll IsValue Joins a xs b →
      JoinsAll IsValue Joins a ys c → b ≡ c
  values_alike a xs ys b c v vs ws same h g =
      let first = result_value a xs b v h in
      let second = result_value a ys c v g in
      one_below b c first second
      (least_of_all a xs b c second h (start_below a ys c v g)
      (λ x m. item_below a ys c x v ws g ((same x).0 m)))
      (least_of_all a ys c b first g (start_below a xs b v h)
      (λ x m. item_below a xs b x v vs h ((same x).1 m)))

  -- the items that are joined are values
  items_values : (a : X) (xs : List X) (b : X) → JoinsAll IsValue Joins a xs b → All IsValue xs
  items_values a [] b h = All-nil IsValue
  items_values a (x ∷ xs) b h = All-cons IsValue x xs h.5 (items_values h.0 xs b h.3)

  -- lists with the same members, joined to one start, give one value
  pub joined_alike : (a : X) (xs ys : List X) (b c : X) →
      ((x : X) → Contains xs x ↔ Contains ys x) → JoinsAll IsValue Joins a xs b →
      JoinsAll IsValue Joins a ys c → b ≡ c
  joined_alike a [] [] b c same h g = sym h ∙ g
  joined_alike a [] (y ∷ ys) b c same h g = absurd (in_none y ((same y).1 (in_first y ys y refl)))
  joined_alike a (x ∷ xs) ys b c same h g =
      values_alike a (x ∷ xs) ys b c h.4 (items_values a (x ∷ xs) b h) (items_values a ys c g) same
      h g
