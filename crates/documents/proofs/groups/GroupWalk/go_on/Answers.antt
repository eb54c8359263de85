use Rattle.std.proofs.Common.{◌≡◌, ◌⊎◌, IfErr, OnOk, arith, refl, subst, sym}
use Rattle.toml.specs.View.{view}
use Rattle.faults.specs.declared.fault.Cause.TheVariants as cause
use Rattle.documents.specs.declared.groups.GroupWalk.{GroupWalk}
use Rattle.documents.specs.Groups.{group_member}
use Rattle.documents.specs.Way.GroupViews.{group_view, walk_view, walk_with}
use Rattle.documents.specs.GroupWalk.{going, refused, step, take_member}
use Rattle.documents.proofs.GroupViews.{ended_group, ended_less, next_less, next_value, on_ok}
use Rattle.documents.proofs.groups.GroupWalk.go_on.Goals as goal
use Rattle.documents.proofs.groups.GroupWalk.go_on.Goals.{After-take}

-- the walk with the group that is at its end
abbrev at_end : goal.In_ok-insert → GroupWalk
at_end c = record {
  active = c.args.self.now.active;
  unopened = c.args.self.now.unopened;
  closed = c.insert.new.self;
  texts = c.args.self.now.texts;
}

-- .. and with what is left of it
abbrev behind : After-take → GroupWalk
behind c = record {
  active = c.push.new.self;
  unopened = c.args.self.now.unopened;
  closed = c.args.self.now.closed;
  texts = c.args.self.now.texts;
}

taken : (c : After-take) → take_member (walk_view (behind c)) (group_member (view c.in-Some.first.now))
    ≡ step (walk_with c.args.self.now (group_view c.args.group))
taken c =
    sym (next_value c.args.self.now (behind c) c.args.group c.in-Some.first.now c.in-Some.rest
    c.in-Some.ensures.cases.0 c.in_ok-push.ensures.items refl refl refl)

pub returns-in_default-clause-ok : goal.returns-in_default-clause-ok
returns-in_default-clause-ok c =
    ended_group c.args.self.now (at_end c) c.args.group c.in_default.ensures.cases
    c.in_ok-insert.ensures.updates.0 refl refl refl

pub returns-in_default-clause-less : goal.returns-in_default-clause-less
returns-in_default-clause-less c = ended_less c.args.self.now (at_end c) c.args.group refl refl

pub returns-clause-ok : goal.returns-clause-ok
returns-clause-ok c =
    subst (λ s. OnOk c.take.result (s ≡ going (walk_view c.take.new.self))) (taken c)
    c.take.ensures.ok

pub returns-clause-less : goal.returns-clause-less
returns-clause-less c =
    let next = next_less c.args.self.now (behind c) c.args.group c.in-Some.first.now c.in-Some.rest
    c.in-Some.ensures.cases.0 c.in_ok-push.ensures.items refl in
    on_ok c.take.result _ _ (λ less. omega (arith, less, next)) c.take.ensures.less

pub returns-clause-refused : goal.returns-clause-refused
returns-clause-refused c =
    subst (λ s. IfErr c.take.result (λ e. (e ≡ cause.NoMemory) ⊎ (s ≡ refused e))) (taken c)
    c.take.ensures.refused
