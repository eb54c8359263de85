-- A walk through groups comes to one result, and to an end.
use Rattle.std.proofs.Common.{◌≡◌, ℕ, zero, suc, ◌+◌, ◌<◌, ◌≤◌, Bool, true, false, List, [], ◌∷◌, ◌++◌}
use Rattle.std.proofs.Common.{Option, Some, None, Result, Ok, Err, refl, sym, ap, ◌∙◌, subst, arith}
use Rattle.std.proofs.Common.{bytes_eq, if◌then◌else◌}
use Rattle.toml.specs.Data.{Data, Items, no_items, item}
use Rattle.faults.specs.declared.fault.Cause.{Cause}
use Rattle.faults.specs.declared.fault.Cause.TheVariants as cause
use Rattle.documents.specs.Groups.{AreMembers, Group, GroupMember, IsGroupWhole, group_at, group_member, include, text}
use Rattle.documents.specs.Groups.{IsGroupFault, by_cycle, by_member, by_missing}
use Rattle.documents.specs.GroupWalk.{ComesTo, ActiveGroup, Step, Walk, at_first, by_end, by_fault, by_step}
use Rattle.documents.specs.GroupWalk.{going, is_active, items_left, open_at, open_group}
use Rattle.documents.specs.GroupWalk.{refused, step, take_member, size_of, without}
use Rattle.documents.specs.ProjectRequirements.{ProjectTexts}
use Rattle.documents.proofs.GroupLaws.{same_name, is_same, walk_of}
use Rattle.documents.proofs.GroupSteps.{group_comes_to}

-- ---- one result

pub one_result : (s : Step) (r q : Result (List (List ℕ)) Cause) → ComesTo s r → ComesTo s q → r ≡ q
one_result s r q (by_end xs is e) (by_end ys at f) = cc (is, e, at, f)
one_result s r q (by_end xs is e) (by_fault c at f) = cc (is, at)
one_result s r q (by_end xs is e) (by_step w at h) = cc (is, at)
one_result s r q (by_fault c is e) (by_end ys at f) = cc (is, at)
one_result s r q (by_fault c is e) (by_fault d at f) = cc (is, e, at, f)
one_result s r q (by_fault c is e) (by_step w at h) = cc (is, at)
one_result s r q (by_step w is h) (by_end ys at f) = cc (is, at)
one_result s r q (by_step w is h) (by_fault c at f) = cc (is, at)
one_result s r q (by_step w is h) (by_step v at g) =
    let same : v ≡ w = cc (is, at) in
    one_result (step w) r q h (subst (λ x. ComesTo (step x) q) same g)

pub one_texts : (extra : List ℕ) (group : Option (List ℕ)) (bytes : List ℕ)
    (r q : Result (List (List ℕ)) Cause) → ProjectTexts extra group bytes r →
    ProjectTexts extra group bytes q → r ≡ q
one_texts extra None bytes r q h g = sym h ∙ g
one_texts extra (Some group) bytes r q h g = one_result _ r q h g

-- ---- an end

-- the values of arrays that no walk has come to, and two for each array
abbrev groups_left : List Group → ℕ
groups_left [] = 0
groups_left (g ∷ groups) = size_of g.1 + 2 + groups_left groups

-- the groups of other names
abbrev left_out : List ℕ → List Group → List Group
left_out name [] = []
left_out name (g ∷ groups) =
    if bytes_eq g.0 name then left_out name groups else g ∷ left_out name groups

-- what a look-up finds behind one group more
with_first : (g : Group) (groups : List Group) (q : List ℕ) →
    group_at (g ∷ groups) q ≡ (if bytes_eq g.0 q then Some g.1 else group_at groups q)
with_first g groups q = by (bytes_eq g.0 q) refl
  where
    by : (b : Bool) → bytes_eq g.0 q ≡ b →
        group_at (g ∷ groups) q ≡ (if b then Some g.1 else group_at groups q)
    by true e = rw e refl
    by false e = rw e refl

nothing_in : (b : Bool) (o : Option Items) → o ≡ (if b then o else o)
nothing_in true o = refl
nothing_in false o = refl

left_out_at : (name : List ℕ) (groups : List Group) (q : List ℕ) →
    group_at (left_out name groups) q ≡ without name (group_at groups) q
left_out_at name [] q = nothing_in (bytes_eq name q) None
left_out_at name (g ∷ groups) q =
    by (left_out_at name groups q) (bytes_eq g.0 name) refl (bytes_eq name q) refl (bytes_eq g.0 q)
    refl
  where
    whole : group_at (g ∷ groups) q ≡ (if bytes_eq g.0 q then Some g.1 else group_at groups q)
    whole = with_first g groups q

    kept : group_at (g ∷ left_out name groups) q
        ≡ (if bytes_eq g.0 q then Some g.1 else group_at (left_out name groups) q)
    kept = with_first g (left_out name groups) q

    by : group_at (left_out name groups) q
        ≡ (if bytes_eq name q then None else group_at groups q) →
        (b : Bool) → bytes_eq g.0 name ≡ b → (c : Bool) → bytes_eq name q ≡ c → (d : Bool) →
        bytes_eq g.0 q ≡ d → group_at (if b then left_out name groups else g ∷ left_out name groups) q
        ≡ (if c then None else group_at (g ∷ groups) q)
    by later true e true f d h = later ∙ rw f refl
    by later true e false f true h =
        let same : name ≡ q = sym (same_name g.0 name e) ∙ same_name g.0 q h in
        let two : bytes_eq name q ≡ true = is_same name q same in cc (two, f)
    by later true e false f false h = later ∙ rw f (sym (whole ∙ rw h refl))
    by later false e true f true h =
        let same : g.0 ≡ name = same_name g.0 q h ∙ sym (same_name name q f) in
        let two : bytes_eq g.0 name ≡ true = is_same g.0 name same in cc (two, e)
    by later false e true f false h = kept ∙ rw h (later ∙ rw f refl)
    by later false e false f true h = kept ∙ rw h refl
    by later false e false f false h = kept ∙ rw h (later ∙ rw f refl)

fewer_left : (name : List ℕ) (groups : List Group) →
    groups_left (left_out name groups) ≤ groups_left groups
fewer_left name [] = omega arith
fewer_left name (g ∷ groups) = by (bytes_eq g.0 name) (fewer_left name groups)
  where
    by : (b : Bool) → groups_left (left_out name groups) ≤ groups_left groups →
        groups_left (if b then left_out name groups else g ∷ left_out name groups)
        ≤ groups_left (g ∷ groups)
    by true later = omega (arith, later)
    by false later = omega (arith, later)

opened_less : (name : List ℕ) (groups : List Group) (ds : Items) →
    group_at groups name ≡ Some ds →
    groups_left (left_out name groups) + (size_of ds + 2) ≤ groups_left groups
opened_less name [] ds e = cc e
opened_less name (g ∷ groups) ds e =
    by (λ found. opened_less name groups ds found) (bytes_eq g.0 name) refl
  where
    by : (group_at groups name ≡ Some ds →
        groups_left (left_out name groups) + (size_of ds + 2) ≤ groups_left groups) →
        (b : Bool) → bytes_eq g.0 name ≡ b →
        groups_left (if b then left_out name groups else g ∷ left_out name groups)
        + (size_of ds + 2) ≤ groups_left (g ∷ groups)
    by later true f =
        let found : Some g.1 ≡ Some ds = sym (with_first g groups name ∙ rw f refl) ∙ e in
        let same : g.1 ≡ ds = cc found in
        subst (λ es. groups_left (left_out name groups) + (size_of es + 2)
        ≤ groups_left (g ∷ groups)) same (omega (arith, fewer_left name groups))
    by later false f =
        let found : group_at groups name ≡ Some ds = sym (with_first g groups name ∙ rw f refl) ∙ e in
        omega (arith, later found)

abbrev HasResult : Step → Type 0
HasResult s = (r : Result (List (List ℕ)) Cause) × ComesTo s r

on : (w : Walk) → HasResult (step w) → HasResult (going w)
on w (r, h) = (r, by_step w refl h)

-- a step in a group's array, where each walk that is less comes to an end
module _ (name : List ℕ) (d : Data) (ds : Items) (active : List ActiveGroup)
    (unopened : List ℕ → Option Items) (is_closed : List ℕ → Bool) (xs : List (List ℕ))
    (groups : List Group) (same : (q : List ℕ) → unopened q ≡ group_at groups q) where
  abbrev behind : Walk
  behind = walk_of ((name, ds) ∷ active) unopened is_closed xs

  module _ (further : HasResult (step behind))
      (with_one : (x : List ℕ) →
      HasResult (step (walk_of ((name, ds) ∷ active) unopened is_closed (xs ++ x ∷ []))))
      (within : (k : List ℕ) (es : Items) → group_at groups k ≡ Some es →
      HasResult (step (walk_of ((k, es) ∷ (name, ds) ∷ active) (without k unopened) is_closed xs)))
    where
      by_active : (b : Bool) →
          HasResult (if b then refused cause.GroupCycle else refused cause.NoGroup)
      by_active true = (Err cause.GroupCycle, by_fault cause.GroupCycle refl refl)
      by_active false = (Err cause.NoGroup, by_fault cause.NoGroup refl refl)

      by_closed : (k : List ℕ) (b : Bool) →
          HasResult (if b then going behind else if is_active k ((name, ds) ∷ active)
          then refused cause.GroupCycle else refused cause.NoGroup)
      by_closed k true = on behind further
      by_closed k false = by_active (is_active k ((name, ds) ∷ active))

      by_group : (k : List ℕ) (o : Option Items) → unopened k ≡ o → HasResult (open_at behind k o)
      by_group k (Some es) e = on _ (within k es (sym (same k) ∙ e))
      by_group k None e = by_closed k (is_closed k)

      by_member_of : (m : Option GroupMember) → HasResult (take_member behind m)
      by_member_of None = (Err cause.WrongShape, by_fault cause.WrongShape refl refl)
      by_member_of (Some (text x)) = on _ (with_one x)
      by_member_of (Some (include k)) = by_group k (unopened k) refl

ends : (n : ℕ) (active : List ActiveGroup) (unopened : List ℕ → Option Items)
    (is_closed : List ℕ → Bool) (xs : List (List ℕ)) (groups : List Group) →
    ((q : List ℕ) → unopened q ≡ group_at groups q) → items_left active + groups_left groups < n →
    HasResult (step (walk_of active unopened is_closed xs))
ends zero active unopened is_closed xs groups same lt = absurd (omega (arith, lt))
ends (suc n) [] unopened is_closed xs groups same lt = (Ok xs, by_end xs refl refl)
ends (suc n) ((name, no_items) ∷ active) unopened is_closed xs groups same lt =
    on _ (ends n active unopened _ xs groups same (omega (arith, lt)))
ends (suc n) ((name, item d ds) ∷ active) unopened is_closed xs groups same lt =
    by_member_of name d ds active unopened is_closed xs groups same
    (ends n ((name, ds) ∷ active) unopened is_closed xs groups same (omega (arith, lt)))
    (λ x. ends n ((name, ds) ∷ active) unopened is_closed (xs ++ x ∷ []) groups same
    (omega (arith, lt)))
    (λ k es e. let less = opened_less k groups es e in
    ends n ((k, es) ∷ (name, ds) ∷ active) (without k unopened) is_closed xs (left_out k groups)
    (λ q. ap (λ o. if bytes_eq k q then None else o) (same q) ∙ sym (left_out_at k groups q))
    (omega (arith, lt, less))) (group_member d)

module _ (groups : List Group) (root : List ℕ) where
  first_ends : HasResult (open_group (at_first groups) root)
  first_ends = by (group_at groups root) refl
    where
      by : (o : Option Items) → group_at groups root ≡ o →
          HasResult (open_at (at_first groups) root o)
      by (Some ds) e =
          let less = opened_less root groups ds e in
          on _ (ends (groups_left groups + 1) ((root, ds) ∷ []) (without root (group_at groups))
          (λ q. false) [] (left_out root groups) (λ q. sym (left_out_at root groups q))
          (omega (arith, less)))
      by None e = (Err cause.NoGroup, by_fault cause.NoGroup refl refl)

  no_fault : IsGroupWhole groups root → (c : Cause) → ¬ IsGroupFault groups root c
  no_fault h c (by_missing name reached none is) =
      let there = h.there name reached in cc (none, there.1)
  no_fault h c (by_cycle name reached chain is) = h.no_cycle name reached chain
  no_fault h c (by_member name ds reached at bad is) =
      let there = h.there name reached in
      let same : there.0 ≡ ds = cc (there.1, at) in bad (subst AreMembers same there.2)

  -- a group that is whole is walked to its end
  pub whole_comes_to : IsGroupWhole groups root →
      (xs : List (List ℕ)) × ComesTo (open_group (at_first groups) root) (Ok xs)
  whole_comes_to h = by first_ends.0 first_ends.1
    where
      by : (r : Result (List (List ℕ)) Cause) → ComesTo (open_group (at_first groups) root) r →
          (xs : List (List ℕ)) × ComesTo (open_group (at_first groups) root) (Ok xs)
      by (Ok xs) come = (xs, come)
      by (Err c) come = absurd (no_fault h c (group_comes_to groups root (Err c) come))
