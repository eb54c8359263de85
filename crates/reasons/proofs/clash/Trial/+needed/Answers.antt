use Rattle.std.proofs.Common.{◌++◌, ◌∙◌, List, ℕ, ap, map, rules, subst, sym}
use Rattle.std.proofs.lemmas.List.{nil_from_length}
use Rattle.reasons.specs.Way.ClashSearch.{ArePicked, AreWithin, IsLeast, StandsFor}
use Rattle.reasons.specs.View.{claims_at, placed_parts}
use Rattle.reasons.proofs.ClashSteps.{both_among, least_of_both, lone_least, none_least, none_left}
use Rattle.reasons.proofs.ClashSteps.{told_enough, told_few}
use Rattle.reasons.proofs.PickedClaims.{all_picked, at_among, none_picked, parts_within, picked_of_both, picked_there}
use Rattle.reasons.proofs.PickedClaims.{some_within}
use Rattle.reasons.proofs.clash.Trial.+needed.Goals as goal
use Rattle.reasons.proofs.clash.Trial.+needed.Goals.{then-is_empty-via-then-is_empty, then-is_empty-via-else-is_empty+in_ok-is_enough+then-branch}

pub returns-then-is_empty-clause-picked : goal.returns-then-is_empty-clause-picked
returns-then-is_empty-clause-picked t c =
    subst (λ (l : List ℕ). ArePicked l c.args.picked.now) (sym c.new.ensures.items)
    (none_picked c.args.picked.now)

pub returns-then-is_empty-clause-least : goal.returns-then-is_empty-clause-least
returns-then-is_empty-clause-least t c = λ some among stands clash.
    let name = c.args.self.now.name.now in
    let w = c.args.self.now.verdict in
    let ps = map placed_parts c.args.self.now.claims.now in
    none_least name w some (claims_at ps c.new.result.items) (ap (claims_at ps) c.new.ensures.items)
    (elim c.then-is_empty.branch [
      | then-is_empty-via-then-is_empty v ↦
          none_left name w some ps c.args.picked.now
          (nil_from_length c.args.picked.now (search rules)) clash
      | then-is_empty-via-else-is_empty+in_ok-is_enough+then-branch v ↦
          told_enough name w some v.in_ok-is_enough.field-0 v.if-branch.true
          (v.in_ok-is_enough.ensures some among stands)
    ])

pub returns-then-picked-eq1-clause-picked : goal.returns-then-picked-eq1-clause-picked
returns-then-picked-eq1-clause-picked t c =
    subst (λ (l : List ℕ). ArePicked l c.args.picked.now) (sym c.in_ok-from_slice.ensures.items)
    (all_picked c.args.picked.now)

pub returns-then-picked-eq1-clause-least : goal.returns-then-picked-eq1-clause-least
returns-then-picked-eq1-clause-least t c = λ some among stands clash.
    let name = c.args.self.now.name.now in
    let w = c.args.self.now.verdict in
    let ps = map placed_parts c.args.self.now.claims.now in
    subst (λ (l : List ℕ). IsLeast name w some (claims_at ps l)) (sym c.in_ok-from_slice.ensures.items)
    (lone_least name w some ps c.args.picked.now c.if-picked-eq1.true clash
    (told_few name w some c.in_ok-is_enough.field-0 c.if-branch.false
    (c.in_ok-is_enough.ensures some among stands)))

pub with_more-requires-2 : goal.with_more-requires-2
with_more-requires-2 t c = record {
  within =
      let ps = map placed_parts c.args.self.now.claims.now in
      let back = c.split_at.result.1.now in
      subst (AreWithin ps) (sym c.as_slice.ensures.value)
      (some_within ps c.in_ok-behind.behind.items back
      (picked_there c.in_ok-behind.behind.items back c.in_ok-behind.ensures.picked)
      (parts_within ps c.args.picked.now c.split_at.result.0.now back c.split_at.ensures.by_index.0
      c.requires.within).1);
}

pub returns-clause-picked : goal.returns-clause-picked
returns-clause-picked t c =
    picked_of_both c.args.picked.now c.split_at.result.0.now c.split_at.result.1.now
    c.extend_from_slice.new.self.items c.in_ok-found.found.items c.in_ok-behind.behind.items
    c.split_at.ensures.by_index.0 (c.in_ok-extend_from_slice.ensures.items
    ∙ ap (λ (l : List ℕ). c.in_ok-found.found.items ++ l) c.as_slice-2.ensures.value)
    c.in_ok-found.ensures.picked c.in_ok-behind.ensures.picked

pub returns-clause-least : goal.returns-clause-least
returns-clause-least t c = λ some among stands clash.
    let name = c.args.self.now.name.now in
    let ps = map placed_parts c.args.self.now.claims.now in
    let front = c.split_at.result.0.now in
    let back = c.split_at.result.1.now in
    let xs = c.in_ok-found.found.items in
    let ys = c.in_ok-behind.behind.items in
    let whole = c.split_at.ensures.by_index.0 in
    let within = parts_within ps c.args.picked.now front back whole c.requires.within in
    least_of_both name c.args.self.now.verdict ps some c.args.picked.now front back
    c.extend_from_slice.new.self.items xs ys whole (c.in_ok-extend_from_slice.ensures.items
    ∙ ap (λ (l : List ℕ). xs ++ l) c.as_slice-2.ensures.value) c.in_ok-found.ensures.picked
    (c.in_ok-behind.ensures.least (some ++ claims_at ps front)
    (both_among some (claims_at ps front) ps among (at_among ps front within.0))
    (c.in_ok-with_front.ensures some stands))
    (c.in_ok-found.ensures.least (some ++ claims_at ps ys)
    (both_among some (claims_at ps ys) ps among (at_among ps ys
    (some_within ps ys back (picked_there ys back c.in_ok-behind.ensures.picked) within.1)))
    (subst (λ (l : List ℕ). StandsFor name (some ++ claims_at ps l) c.in_ok-with_behind.with_behind)
    c.as_slice.ensures.value (c.in_ok-with_behind.ensures some stands))) clash
