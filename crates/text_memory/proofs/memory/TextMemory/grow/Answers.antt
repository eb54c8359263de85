use Rattle.std.proofs.Common.{Contains, subst}
use Rattle.std.specs.Prelude.{IfSome}
use Rattle.std.proofs.lemmas.List.Elements.{All-contains_itself, All-pop}
use Rattle.text_memory.proofs.MemoryLemmas.{all_empty, all_kept}
use Rattle.text_memory.proofs.memory.TextMemory.grow.Goals as goal

pub old-init : goal.old-init
old-init g c = (
  rw c.replace-old.ensures.after (all_empty c.args.self.now c.in_ok-slots.slots.items c.in_ok-slots.ensures.empty),
  rw (c.replace-old.ensures.value, c.self.view_is) (All-contains_itself c.args.self.now),
)

pub old-preserved-in-Some-slot : goal.old-preserved-in-Some-slot
old-preserved-in-Some-slot g c =
    let old = c.args.self.now in
    let popped = All-pop (Contains old) c.old.old.items c.pop.new.self.items c.pop.result c.pop.ensures.items
    c.old.invariant.1 in
    let slot = subst (λ o. IfSome o (Contains old)) c.in-Some.is popped.1 in
    let here = subst (Contains old) c.in-Some-slot.is slot in
    (all_kept old c.old.self c.keep.new.self c.in-Some-slot.it c.old.invariant.0 here c.keep.ensures, popped.0)

pub old-preserved : goal.old-preserved
old-preserved g c = (
  c.old.invariant.0,
  (All-pop (Contains c.args.self.now) c.old.old.items c.pop.new.self.items c.pop.result c.pop.ensures.items
      c.old.invariant.1).0,
)
