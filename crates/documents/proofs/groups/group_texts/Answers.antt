use Rattle.std.proofs.Common.{List, Result, ℕ, ◌≡◌, None, Some, codes, inr, refl, rules, subst}
use Rattle.std.proofs.lemmas.Result.{IfErr-weaker, IfOk-weaker, err_from_is_err_and}
use Rattle.toml.specs.Data.{as_table, get_member}
use Rattle.toml.specs.View.{table_view, view}
use Rattle.pep_require.proofs.Exits.{further}
use Rattle.documents.specs.declared.groups.GroupWalk.{GroupWalk}
use Rattle.faults.specs.declared.fault.Cause.{Cause}
use Rattle.documents.specs.Groups.{groups_in}
use Rattle.documents.specs.Way.GroupViews.{walk_view}
use Rattle.documents.specs.GroupWalk.{ComesTo, by_fault, by_step, group_step, open_group}
use Rattle.documents.proofs.Documents.{at_key, at_no_key}
use Rattle.documents.proofs.GroupViews.{bad_groups, equal_groups, first_walk, groups_walked, no_groups}
use Rattle.documents.proofs.GroupViews.{no_table}
use Rattle.documents.proofs.groups.group_texts.Goals as goal
use Rattle.documents.proofs.groups.group_texts.Goals.{In-Some, In-Some-as_table, After-enter}

found_at : (c : In-Some) → get_member (codes "dependency-groups") (table_view c.args.document.now)
    ≡ Some (view c.in-Some.found.now)
found_at c =
    at_key (codes "dependency-groups") c.args.document.now c.get.result c.in-Some.found c.in-Some.is
    c.get.ensures.value

is_table : (c : In-Some-as_table) →
    as_table (view c.in-Some.found.now) ≡ Some (table_view c.in-Some-as_table.table.now)
is_table c = search rules

pub returns-in_default-clause-refused : goal.returns-in_default-clause-refused
returns-in_default-clause-refused c =
    inr (no_groups (table_view c.args.document.now) c.args.group.now
    (at_no_key (codes "dependency-groups") c.args.document.now c.get.result c.in_default.is
    c.get.ensures.value))

pub returns-in_default-as_table-clause-refused : goal.returns-in_default-as_table-clause-refused
returns-in_default-as_table-clause-refused c =
    let at = goal.at.returns-in_default-as_table-clause-refused c in
    let none : as_table (view c.in-Some.found.now) ≡ None = search rules in
    inr (no_table (table_view c.args.document.now) c.args.group.now _ (found_at at.In-Some) none)

pub returns-in_err-groups-clause-refused : goal.returns-in_err-groups-clause-refused
returns-in_err-groups-clause-refused c =
    let at = goal.at.returns-in_err-groups-clause-refused c in
    let p = err_from_is_err_and c.from_residual.result c.from_residual.ensures.1 in
    rw (p.1, p.2) (further (λ h. bad_groups (table_view c.args.document.now) c.args.group.now _
    (found_at at.In-Some) _ (is_table at.In-Some-as_table) _ h.0 h.1) c.in_err-groups.ensures.refused)

pub returns-in_err-unopened-clause-refused : goal.returns-in_err-unopened-clause-refused
returns-in_err-unopened-clause-refused c =
    let at = goal.at.returns-in_err-unopened-clause-refused c in
    let exit = c.from_residual-in_err-unopened in
    let p = err_from_is_err_and exit.result exit.ensures.1 in
    rw (p.1, p.2) (further (λ h. equal_groups (table_view c.args.document.now) c.args.group.now _
    (found_at at.In-Some) _ (is_table at.In-Some-as_table) _ _ c.in_ok-groups.ensures.ok h.0 h.1)
    c.in_err-unopened.ensures.refused)

-- no group is walked yet
abbrev before : After-enter → GroupWalk
before c = record {
  active = c.new.result;
  unopened = c.in_ok-unopened.unopened;
  closed = c.new-2.result;
  texts = c.new-3.result;
}

-- what the walk comes to from there, the group comes to
from_there : (c : After-enter) →
    get_member (codes "dependency-groups") (table_view c.args.document.now)
    ≡ Some (view c.in-Some.found.now) →
    as_table (view c.in-Some.found.now) ≡ Some (table_view c.in-Some-as_table.table.now) →
    (r : Result (List (List ℕ)) Cause) →
    ComesTo (open_group (walk_view (before c)) c.args.group.now) r →
    ComesTo (group_step c.args.group.now (groups_in (table_view c.args.document.now))) r
from_there c found table r h =
    groups_walked (table_view c.args.document.now) c.args.group.now _ found _ table _
    c.in_ok-groups.ensures.ok c.in_ok-unopened.ensures.ok.0 r
    (subst (λ w. ComesTo (open_group w c.args.group.now) r)
    (first_walk (before c) _ c.new.ensures.items c.in_ok-unopened.ensures.ok.1 c.new-2.ensures.empty
    c.new-3.ensures.items) h)

pub returns-in_err-enter-clause-refused : goal.returns-in_err-enter-clause-refused
returns-in_err-enter-clause-refused c =
    let at = goal.at.returns-in_err-enter-clause-refused c in
    let exit = c.from_residual-in_err-enter in
    let p = err_from_is_err_and exit.result exit.ensures.1 in
    rw (p.1, p.2) (further (λ h. from_there at.After-enter (found_at at.In-Some)
    (is_table at.In-Some-as_table) _ (by_fault _ h refl)) c.in_err-enter.ensures.refused)

pub returns-clause-ok : goal.returns-clause-ok
returns-clause-ok c =
    let at = goal.at.returns-clause-ok c in
    IfOk-weaker c.finish.result _ _ (λ texts h. from_there at.After-enter (found_at at.In-Some)
    (is_table at.In-Some-as_table) _ (by_step _ c.in_ok-enter.ensures.ok h)) c.finish.ensures.ok

pub returns-clause-refused : goal.returns-clause-refused
returns-clause-refused c =
    let at = goal.at.returns-clause-refused c in
    IfErr-weaker c.finish.result _ _ (λ e h. further (λ k. from_there at.After-enter
    (found_at at.In-Some) (is_table at.In-Some-as_table) _ (by_step _ c.in_ok-enter.ensures.ok k)) h)
    c.finish.ensures.refused
