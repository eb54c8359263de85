use Rattle.std.proofs.Common.{◌∙◌, ap, bytes_eq, inr, refl, sym}
use Rattle.std.specs.List.{list_any}
use Rattle.documents.specs.declared.groups.GroupWalk.{GroupWalk}
use Rattle.documents.proofs.GroupViews.{cycled, entered, entered_less, not_there}
use Rattle.documents.proofs.groups.GroupWalk.enter.Goals as goal

-- the walk with the group that is included
behind : goal.In_ok-push → GroupWalk
behind c = record {
  active = c.push.new.self;
  unopened = c.remove_entry.new.self;
  closed = c.args.self.now.closed;
  texts = c.args.self.now.texts;
}

pub returns-in-Some-clause-ok : goal.returns-in-Some-clause-ok
unfolding behind
returns-in-Some-clause-ok c =
    entered c.args.self.now c.args.name.now (behind c) c.in-Some.name c.in-Some.values
    c.in-Some.ensures.value c.in-Some.ensures.same_key c.in-Some.ensures.updates.0
    c.in_ok-push.ensures.items refl refl

pub returns-in-Some-clause-less : goal.returns-in-Some-clause-less
unfolding behind
returns-in-Some-clause-less c =
    entered_less c.args.self.now c.args.name.now (behind c) c.in-Some.name c.in-Some.values
    c.in-Some.ensures.value c.in_ok-push.ensures.items c.in-Some.ensures.entries

pub returns-then-is_active-clause-refused : goal.returns-then-is_active-clause-refused
returns-then-is_active-clause-refused c =
    inr (cycled c.args.self.now c.args.name.now c.in_default.ensures.value (sym c.if-contains.ensures)
    (ap (list_any (λ g. bytes_eq g.name c.args.name.now)) (sym c.as_slice.ensures.value)
    ∙ sym c.if-is_active.ensures))

pub returns-clause-refused : goal.returns-clause-refused
returns-clause-refused c =
    inr (not_there c.args.self.now c.args.name.now c.in_default.ensures.value
    (sym c.if-contains.ensures)
    (ap (list_any (λ g. bytes_eq g.name c.args.name.now)) (sym c.as_slice.ensures.value)
    ∙ sym c.if-is_active.ensures))
