use Rattle.std.proofs.Common.{◌≡◌, ◌∷◌, ◌∙◌, [], List, Some, ap, inr, map, refl, rules, string_bytes}
use Rattle.std.proofs.Common.{subst, sym}
use Rattle.std.proofs.lemmas.List.{map-append}
use Rattle.std.proofs.lemmas.Result.{err_from_is_err_and}
use Rattle.toml.proofs.Views.{Entry}
use Rattle.toml.specs.Data.{as_array, member}
use Rattle.toml.specs.View.{items_view, members_view, table_view, view}
use Rattle.pep_marker.specs.Name.{name_of}
use Rattle.pep_require.proofs.Exits.{further}
use Rattle.documents.specs.Groups.{groups_of}
use Rattle.documents.specs.Way.GroupViews.{group_view}
use Rattle.documents.proofs.GroupTables.{all_done, and_then, group_more, no_array, no_name, nothing_done}
use Rattle.documents.proofs.groups.groups_of.Goals as goal
use Rattle.documents.proofs.groups.groups_of.Goals.{In-Some}

-- what the loop keeps, where this key is the next
at_key : (c : In-Some) → and_then (map group_view c.loop-key.groups.items)
    (groups_of (member (string_bytes c.in-Some.key.now) (view c.in-Some.value.now)
    (members_view c.next.new.self))) ≡ groups_of (table_view c.args.table.now)
at_key c =
    let e : Entry = (c.in-Some.key.now, c.in-Some.value.now) in
    let split : c.loop-key.key-iterator ≡ e ∷ c.next.new.self = search rules in
    subst (λ (l : List Entry). and_then (map group_view c.loop-key.groups.items)
    (groups_of (members_view l)) ≡ groups_of (table_view c.args.table.now)) split c.loop-key.invariant

pub loop-key-init : goal.loop-key-init
loop-key-init c =
    let none : c.in_ok-groups.groups.items ≡ [] = search rules in
    let all : c.into_iter-key-iterator.result ≡ c.args.table.now.entries = search rules in
    rw (none, all) (nothing_done (groups_of (table_view c.args.table.now)))

pub returns-in_err-name-clause-refused : goal.returns-in_err-name-clause-refused
returns-in_err-name-clause-refused c =
    let at = goal.at.returns-in_err-name-clause-refused c in
    let exit = c.from_residual-in_err-name in
    let p = err_from_is_err_and exit.result exit.ensures.1 in
    let text : c.deref.result.now ≡ string_bytes c.in-Some.key.now = search rules in
    rw (p.1, p.2) (further (λ h. (
      h.0,
      no_name _ (map group_view c.loop-key.groups.items)
          (members_view c.next.new.self) (string_bytes c.in-Some.key.now) (view c.in-Some.value.now)
          (at_key at.In-Some)
          (ap name_of (sym text) ∙ h.1),
    )) c.in_err-name.ensures.refused)

pub returns-in_default-clause-refused : goal.returns-in_default-clause-refused
returns-in_default-clause-refused c =
    let at = goal.at.returns-in_default-clause-refused c in
    inr (
      refl,
      no_array _ (map group_view c.loop-key.groups.items)
          (members_view c.next.new.self) (string_bytes c.in-Some.key.now) (view c.in-Some.value.now) (at_key at.In-Some)
          (sym c.in_default.ensures),
    )

pub loop-key-preserved : goal.loop-key-preserved
loop-key-preserved c =
    let at = goal.at.loop-key-preserved c in
    let text : c.deref.result.now ≡ string_bytes c.in-Some.key.now = search rules in
    let array : as_array (view c.in-Some.value.now) ≡ Some (items_view c.as_slice.result.now) =
    search rules in
    rw (
      c.in_ok-push.ensures.items,
      map-append group_view c.loop-key.groups.items
          (record { name = c.in_ok-name.name; values = c.as_slice.result } ∷ []),
    )
    (group_more _ (map group_view c.loop-key.groups.items) (members_view c.next.new.self)
    (string_bytes c.in-Some.key.now) (view c.in-Some.value.now) (at_key at.In-Some) c.in_ok-name.name
    (items_view c.as_slice.result.now) (ap name_of (sym text) ∙ c.in_ok-name.ensures.ok) array)

pub returns-clause-ok : goal.returns-clause-ok
returns-clause-ok c =
    let none : c.loop-key.key-iterator ≡ [] = search rules in
    all_done _ (map group_view c.loop-key.groups.items)
    (subst (λ (l : List Entry). and_then (map group_view c.loop-key.groups.items)
    (groups_of (members_view l)) ≡ groups_of (table_view c.args.table.now)) none c.loop-key.invariant)
