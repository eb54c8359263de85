use Rattle.std.proofs.Common.{◌≡◌, ◌∙◌, [], arith, ap, refl, rules}
use Rattle.std.proofs.lemmas.Result.{err_from_is_err_and}
use Rattle.pep_require.proofs.Exits.{further}
use Rattle.documents.specs.declared.groups.GroupWalk.{GroupWalk}
use Rattle.documents.specs.Way.GroupViews.{group_view, walk_view, walk_with}
use Rattle.documents.specs.GroupWalk.{by_fault, by_step, step}
use Rattle.documents.proofs.GroupViews.{taken_left, taken_out, walk_ended}
use Rattle.documents.proofs.groups.GroupWalk.finish.Goals as goal
use Rattle.documents.proofs.groups.GroupWalk.finish.Goals.{In-Some}

-- the walk without the group that is gone on with
abbrev without_group : In-Some → GroupWalk
without_group c = record {
  active = c.pop.new.self;
  unopened = c.loop-group.walk.unopened;
  closed = c.loop-group.walk.closed;
  texts = c.loop-group.walk.texts;
}

out : (c : In-Some) → step (walk_view c.loop-group.walk)
    ≡ step (walk_with (without_group c) (group_view c.in-Some.group))
out c = ap step (taken_out c.loop-group.walk (without_group c) c.in-Some.group
    c.in-Some.ensures.items refl refl refl)

pub loop-group-preserved : goal.loop-group-preserved
loop-group-preserved c = λ r h.
    let at = goal.at.loop-group-preserved c in
    c.loop-group.invariant r (by_step _ (out at.In-Some ∙ c.in_ok-go_on.ensures.ok) h)

pub loop-group-smaller : goal.loop-group-smaller
loop-group-smaller c =
    let left = taken_left c.loop-group.walk (record {
      active = c.pop.new.self;
      unopened = c.loop-group.walk.unopened;
      closed = c.loop-group.walk.closed;
      texts = c.loop-group.walk.texts;
    }) c.in-Some.group c.in-Some.ensures.items refl in
    omega (arith, left, c.in_ok-go_on.ensures.less)

pub returns-in_err-go_on-clause-refused : goal.returns-in_err-go_on-clause-refused
returns-in_err-go_on-clause-refused c =
    let at = goal.at.returns-in_err-go_on-clause-refused c in
    let p = err_from_is_err_and c.from_residual.result c.from_residual.ensures.1 in
    rw (p.1, p.2) (further (λ h. c.loop-group.invariant _ (by_fault _ (out at.In-Some ∙ h) refl))
    c.in_err-go_on.ensures.refused)

pub returns-clause-ok : goal.returns-clause-ok
returns-clause-ok c =
    let none : c.loop-group.walk.active.items ≡ [] = search rules in
    c.loop-group.invariant _ (walk_ended c.loop-group.walk none)
