use Rattle.std.proofs.Common.{◌≡◌, ◌⊎◌, ◌∙◌, None, Some, ap, codes, inl, inr, option_and_then, refl, rules, sym, true}
use Rattle.std.proofs.lemmas.Result.{IfErr-weaker, IfOk-weaker}
use Rattle.toml.specs.Data.{as_table, get_member}
use Rattle.toml.specs.View.{table_view, view}
use Rattle.pep_marker.specs.Name.{name_of}
use Rattle.faults.specs.declared.fault.Cause.{Cause}
use Rattle.faults.specs.declared.fault.Cause.TheVariants as cause
use Rattle.documents.proofs.Documents.{at_key, at_no_key}
use Rattle.documents.proofs.GroupViews.{key_named, no_key, no_one, not_one, one_entry}
use Rattle.documents.specs.Groups.{has_one, included_name}
use Rattle.documents.proofs.groups.included_name.Goals as goal
use Rattle.documents.proofs.groups.included_name.Goals.{In-Some, In-Some-get, After-name_in}

is_table : (c : In-Some) → as_table (view c.args.value.now) ≡ Some (table_view c.in-Some.table.now)
is_table c = search rules

-- the table has one key, at which this is found
found_at : (c : In-Some-get) → get_member (codes "include-group") (table_view c.in-Some.table.now)
    ≡ Some (view c.in-Some-get.found.now)
found_at c =
    at_key (codes "include-group") c.in-Some.table.now c.get.result c.in-Some-get.found
    c.in-Some-get.is c.get.ensures.value

has_one_key : (c : In-Some-get) → has_one (table_view c.in-Some.table.now) ≡ true
has_one_key c = one_entry c.in-Some.table.now.entries (sym c.len.ensures.len ∙ c.if-len-ne1.false)

pub returns-then-len-ne1-clause-refused : goal.returns-then-len-ne1-clause-refused
returns-then-len-ne1-clause-refused c =
    let at = goal.at.returns-then-len-ne1-clause-refused c in
    inr (
      refl,
      no_one (view c.args.value.now) (table_view c.in-Some.table.now) (is_table at.In-Some)
          (not_one c.in-Some.table.now.entries (λ e. c.if-len-ne1.true (c.len.ensures.len ∙ e))),
    )

pub returns-in_default-get-clause-refused : goal.returns-in_default-get-clause-refused
returns-in_default-get-clause-refused c =
    let at = goal.at.returns-in_default-get-clause-refused c in
    inr (
      refl,
      no_key (view c.args.value.now) (table_view c.in-Some.table.now) (is_table at.In-Some)
          (one_entry c.in-Some.table.now.entries (sym c.len.ensures.len ∙ c.if-len-ne1.false))
          (at_no_key (codes "include-group") c.in-Some.table.now c.get.result c.in_default-get.is
          c.get.ensures.value),
    )

pub returns-in_default-as_str-clause-refused : goal.returns-in_default-as_str-clause-refused
returns-in_default-as_str-clause-refused c =
    let at = goal.at.returns-in_default-as_str-clause-refused c in
    inr (
      refl,
      key_named (view c.args.value.now) (table_view c.in-Some.table.now)
          (is_table at.In-Some) (view c.in-Some-get.found.now) None (has_one_key at.In-Some-get)
          (found_at at.In-Some-get)
          (ap (option_and_then name_of) (sym c.in_default-as_str.ensures)),
    )

pub returns-clause-ok : goal.returns-clause-ok
returns-clause-ok c =
    let at = goal.at.returns-clause-ok c in
    IfOk-weaker c.name_in.result _ _
    (λ name h. key_named (view c.args.value.now) (table_view c.in-Some.table.now)
    (is_table at.In-Some) (view c.in-Some-get.found.now) (Some name) (has_one_key at.In-Some-get)
    (found_at at.In-Some-get)
    (ap (option_and_then name_of) (sym c.in-Some-as_str.ensures) ∙ h)) c.name_in.ensures.ok

pub returns-clause-refused : goal.returns-clause-refused
returns-clause-refused c =
    let at = goal.at.returns-clause-refused c in
    IfErr-weaker c.name_in.result _ _ (λ e h. by c e h) c.name_in.ensures.refused
  where
    by : (c : After-name_in) (e : Cause) → (e ≡ cause.NoMemory)
        ⊎ ((e ≡ cause.WrongShape) × (name_of c.in-Some-as_str.text.now ≡ None)) →
        (e ≡ cause.NoMemory) ⊎ ((e ≡ cause.WrongShape)
        × (option_and_then included_name (as_table (view c.args.value.now)) ≡ None))
    by c e (inl memory) = inl memory
    by c e (inr h) =
        let at = goal.at.returns-clause-refused c in
        inr (
          h.0,
          key_named (view c.args.value.now) (table_view c.in-Some.table.now)
              (is_table at.In-Some) (view c.in-Some-get.found.now) None (has_one_key at.In-Some-get)
              (found_at at.In-Some-get)
              (ap (option_and_then name_of) (sym c.in-Some-as_str.ensures) ∙ h.1),
        )
