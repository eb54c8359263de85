use Rattle.std.proofs.Common.{◌≡◌, ◌∷◌, ◌∙◌, [], List, ap, arith, inr, length, map, refl, rules, subst, true}
use Rattle.std.proofs.Common.{sym}
use Rattle.std.proofs.lemmas.List.{nil_from_length}
use Rattle.std.specs.Vec.Iter.{into_iter_items}
use Rattle.documents.specs.declared.groups.Group.{Group}
use Rattle.documents.specs.Groups.{all_different, group_at}
use Rattle.documents.specs.Way.GroupViews.{arrays_at, group_view}
use Rattle.documents.proofs.GroupTables.{ArraysSoFar, all_arrays, array_more, no_arrays, two_of_one}
use Rattle.documents.proofs.GroupTables.{was_none, was_some}
use Rattle.documents.proofs.groups.arrays_of.Goals as goal
use Rattle.documents.proofs.groups.arrays_of.Goals.{In_ok-insert}

-- what the loop keeps, where this group is the next
at_group : (c : In_ok-insert) →
    ArraysSoFar (map group_view (into_iter_items c.into_iter-group-iterator.result))
    (group_view c.in-Some.group ∷ map group_view (into_iter_items c.next.new.self))
    c.loop-group.arrays
at_group c =
    subst (λ (l : List Group).
    ArraysSoFar (map group_view (into_iter_items c.into_iter-group-iterator.result))
    (map group_view l) c.loop-group.arrays) c.in-Some.ensures.steps.0 c.loop-group.invariant.0

pub loop-group-init : goal.loop-group-init
loop-group-init c = (no_arrays _ c.new-arrays.result c.new-arrays.ensures.empty, search rules)

pub returns-then-is_some-clause-refused : goal.returns-then-is_some-clause-refused
returns-then-is_some-clause-refused c =
    let at = goal.at.returns-then-is_some-clause-refused c in
    let found = was_some c.in_ok-insert.field-0 c.if-is_some.ensures in
    let all : into_iter_items c.into_iter-group-iterator.result ≡ c.args.groups.items = search rules in
    inr (
      refl,
      ap (λ (l : List Group). all_different (map group_view l)) (sym all)
          ∙ two_of_one _ _ _ _ (at_group at.In_ok-insert) found.0
          (sym c.in_ok-insert.ensures.old ∙ found.1),
    )

pub loop-group-preserved : goal.loop-group-preserved
loop-group-preserved c =
    let at = goal.at.loop-group-preserved c in
    let steps = c.in-Some.ensures.steps.0 in
    let was = c.loop-group.invariant.1 in
    let gone = c.in-Some.ensures.steps.1 in
    let short = ap length steps in (
      array_more _ _ _ _ (at_group at.In_ok-insert) c.insert.new.self c.in-Some.group.values refl
          (sym c.in_ok-insert.ensures.old ∙ was_none c.in_ok-insert.field-0 c.if-is_some.ensures)
          c.in_ok-insert.ensures.updates.0,
      omega arith,
    )

pub returns-clause-ok : goal.returns-clause-ok
returns-clause-ok c =
    let at = c.loop-group in
    let none : into_iter_items at.group-iterator ≡ [] =
    nil_from_length _ (sym at.invariant.1 ∙ c.in-None.ensures.steps.0) in
    let all : into_iter_items c.into_iter-group-iterator.result ≡ c.args.groups.items = search rules in
    let told = all_arrays (map group_view (into_iter_items c.into_iter-group-iterator.result)) at.arrays
    (subst (λ (l : List Group).
    ArraysSoFar (map group_view (into_iter_items c.into_iter-group-iterator.result))
    (map group_view l) at.arrays) none at.invariant.0) in
    subst (λ (l : List Group). (all_different (map group_view l) ≡ true)
    × (arrays_at at.arrays ≡ group_at (map group_view l))) all told
