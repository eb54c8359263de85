use Rattle.std.proofs.Common.{◌≡◌, ◌∷◌, [], List, ℕ, bytes_eq, cond, false, inr, refl, rules}
use Rattle.std.proofs.Common.{subst, true}
use Rattle.std.specs.BTreeSet.{contains}
use Rattle.pep_marker.specs.Name.{name_cmp}
use Rattle.toml.specs.View.{members_view, view}
use Rattle.toml.proofs.Views.{Entry}
use Rattle.documents.specs.Texts.{lent_texts}
use Rattle.documents.proofs.ProjectExtras.{ExtrasSoFar, all_extras, chosen, extra_more, name_more}
use Rattle.documents.proofs.ProjectExtras.{not_chosen, repeated, was_new, was_there}
use Rattle.documents.proofs.project.wanted_texts.Goals as goal
use Rattle.documents.proofs.project.wanted_texts.Goals.{In-Some, In_ok-texts}

-- what the loop keeps, where this extra is the next
at_extra : (c : In-Some) → ExtrasSoFar (members_view c.args.extras.now.entries)
    (members_view ((c.in-Some.key.now, c.in-Some.value.now) ∷ c.next.new.self))
    (λ q. contains name_cmp c.loop-key.names q) c.args.wanted.now
    (lent_texts c.loop-key.found.items)
at_extra c =
    let e : Entry = (c.in-Some.key.now, c.in-Some.value.now) in
    let split : c.loop-key.key-iterator ≡ e ∷ c.next.new.self = search rules in
    subst (λ (l : List Entry). ExtrasSoFar (members_view c.args.extras.now.entries)
    (members_view l) (λ q. contains name_cmp c.loop-key.names q) c.args.wanted.now
    (lent_texts c.loop-key.found.items)) split c.loop-key.invariant.2

-- .. and where it is done, whichever texts are kept
behind_extra : (c : In_ok-texts) (s : ExtrasSoFar (members_view c.args.extras.now.entries)
    (members_view ((c.in-Some.key.now, c.in-Some.value.now) ∷ c.next.new.self))
    (λ q. contains name_cmp c.loop-key.names q) c.args.wanted.now
    (lent_texts c.loop-key.found.items)) (new : List (List ℕ)) →
    new ≡ cond (bytes_eq c.in_ok-name.name c.args.wanted.now)
    (lent_texts c.in_ok-texts.texts.items) (lent_texts c.loop-key.found.items) →
    ExtrasSoFar (members_view c.args.extras.now.entries) (members_view c.next.new.self)
    (λ q. contains name_cmp c.insert.new.self q) c.args.wanted.now new
behind_extra c s new is =
    extra_more _ _ _ _ _ _ (view c.in-Some.value.now) s c.in_ok-name.name
    (lent_texts c.in_ok-texts.texts.items) _ new (search rules) c.in_ok-texts.ensures.ok
    (was_new (contains name_cmp c.loop-key.names c.in_ok-name.name) c.in_ok-insert.field-0
    c.in_ok-insert.ensures.added (search rules))
    (name_more c.in_ok-name.name _ _ c.in_ok-insert.ensures.updates.0) is

pub returns-then-not-branch-clause-refused : goal.returns-then-not-branch-clause-refused
returns-then-not-branch-clause-refused c =
    inr (
      refl,
      repeated _ _ _ _ _ _ (view c.in-Some.value.now)
          (at_extra (goal.at.returns-then-not-branch-clause-refused c).In-Some)
          c.in_ok-name.name (search rules)
          (was_there (contains name_cmp c.loop-key.names c.in_ok-name.name) c.in_ok-insert.field-0
          c.in_ok-insert.ensures.added (search rules)),
    )

pub loop-key-preserved-then-is_wanted : goal.loop-key-preserved-then-is_wanted
loop-key-preserved-then-is_wanted c =
    let at = goal.at.loop-key-preserved-then-is_wanted c in
    let wanted : bytes_eq c.in_ok-name.name c.args.wanted.now ≡ true = search rules in
    (tt, tt, behind_extra at.In_ok-texts (at_extra at.In-Some) _ (chosen _ _ _ wanted))

pub loop-key-preserved : goal.loop-key-preserved
loop-key-preserved c =
    let at = goal.at.loop-key-preserved c in
    let other : bytes_eq c.in_ok-name.name c.args.wanted.now ≡ false = search rules in
    (tt, tt, behind_extra at.In_ok-texts (at_extra at.In-Some) _ (not_chosen _ _ _ other))

pub returns-clause-ok : goal.returns-clause-ok
returns-clause-ok c =
    let none : c.loop-key.key-iterator ≡ [] = search rules in
    all_extras _ (λ q. contains name_cmp c.loop-key.names q) _ _
    (subst (λ (l : List Entry). ExtrasSoFar (members_view c.args.extras.now.entries)
    (members_view l) (λ q. contains name_cmp c.loop-key.names q) c.args.wanted.now
    (lent_texts c.loop-key.found.items)) none c.loop-key.invariant.2)
