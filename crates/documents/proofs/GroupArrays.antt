-- Arrays of groups of which the front was taken, and lists with one more at the end.
use Rattle.std.proofs.Common.{◌≡◌, ◌⊎◌, List, [], ◌∷◌, ◌++◌, Some, refl, sym, subst, inl, inr}
use Rattle.std.specs.Prelude.{Contains}
use Rattle.toml.specs.Data.{Data, Items, item}
use Rattle.pep_require.proofs.Members.{in_either, in_first, in_none, in_rest}
use Rattle.documents.specs.Groups.{AreMembers, GroupMember, HasMember, group_member}

-- ---- one more at the end

pub in_front : {X : Type 0} (xs ys : List X) (y : X) → Contains xs y → Contains (xs ++ ys) y
in_front [] ys y has = absurd (in_none y has)
in_front (x ∷ xs) ys y has = elim (in_either x xs y has) [
  | inl same ↦ in_first x (xs ++ ys) y same
  | inr more ↦ in_rest x (xs ++ ys) y (in_front xs ys y more)
]

pub at_end : {X : Type 0} (xs : List X) (x : X) → Contains (xs ++ x ∷ []) x
at_end [] x = in_first x [] x refl
at_end (y ∷ xs) x = in_rest y (xs ++ x ∷ []) x (at_end xs x)

pub in_front_or_last : {X : Type 0} (xs : List X) (x y : X) → Contains (xs ++ x ∷ []) y →
    Contains xs y ⊎ (x ≡ y)
in_front_or_last [] x y has = elim (in_either x [] y has) [
  | inl same ↦ inr same
  | inr more ↦ absurd (in_none y more)
]
in_front_or_last (z ∷ xs) x y has = elim (in_either z (xs ++ x ∷ []) y has) [
  | inl same ↦ inl (in_first z xs y same)
  | inr more ↦ elim (in_front_or_last xs x y more) [
    | inl h ↦ inl (in_rest z xs y h)
    | inr h ↦ inr h
  ]
]

-- ---- the front of an array

-- each value before the rest is a member with the property
pub data Taken (P : GroupMember → Type 0) (ds : Items) : Items → Type 0 where
  nothing_taken : {rest : Items} → ds ≡ rest → Taken P ds rest
  taken : {rest : Items} (d : Data) (m : GroupMember) → Taken P ds (item d rest) →
      group_member d ≡ Some m → P m → Taken P ds rest

pub one_member : (d : Data) (m n : GroupMember) → group_member d ≡ Some m → group_member d ≡ Some n →
    m ≡ n
one_member d m n e f = cc (e, f)

module _ (P : GroupMember → Type 0) (ds : Items) where
  -- a member was taken, or is left
  pub taken_or_left : (rest : Items) (m : GroupMember) → Taken P ds rest → HasMember ds m →
      P m ⊎ HasMember rest m
  taken_or_left rest m (nothing_taken is) has = inr (subst (λ x. HasMember x m) is has)
  taken_or_left rest m (taken d n front is p) has =
      by (taken_or_left (item d rest) m front has)
    where
      by : P m ⊎ ((group_member d ≡ Some m) ⊎ HasMember rest m) → P m ⊎ HasMember rest m
      by (inl h) = inl h
      by (inr (inl same)) = inl (subst P (one_member d n m is same) p)
      by (inr (inr more)) = inr more

  -- what is left is in the array
  pub left_is_there : (rest : Items) (m : GroupMember) → Taken P ds rest → HasMember rest m →
      HasMember ds m
  left_is_there rest m (nothing_taken is) has = subst (λ x. HasMember x m) (sym is) has
  left_is_there rest m (taken d n front is p) has = left_is_there (item d rest) m front (inr has)

  pub left_are_members : (rest : Items) → Taken P ds rest → AreMembers ds → AreMembers rest
  left_are_members rest (nothing_taken is) all = subst AreMembers is all
  left_are_members rest (taken d n front is p) all = (left_are_members (item d rest) front all).1

  pub all_are_members : (rest : Items) → Taken P ds rest → AreMembers rest → AreMembers ds
  all_are_members rest (nothing_taken is) all = subst AreMembers (sym is) all
  all_are_members rest (taken d n front is p) all =
      all_are_members (item d rest) front ((n, is), all)

  pub taken_too : (Q : GroupMember → Type 0) (rest : Items) → ((m : GroupMember) → P m → Q m) →
      Taken P ds rest → Taken Q ds rest
  taken_too Q rest h (nothing_taken is) = nothing_taken is
  taken_too Q rest h (taken d n front is p) = taken d n (taken_too Q (item d rest) h front) is (h n p)
