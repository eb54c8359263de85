use Rattle.std.proofs.Common.{◌≡◌, ◌++◌, ◌∙◌, Bor, List, None, Ok, ap, codes, inr, rules, sym}
use Rattle.std.proofs.Common.{ℕ}
use Rattle.std.proofs.lemmas.List.{map-append}
use Rattle.pep_require.proofs.Exits.{further, handed_on}
use Rattle.toml.specs.Data.{as_table}
use Rattle.toml.specs.View.{table_view, view}
use Rattle.documents.specs.Texts.{lent_texts}
use Rattle.documents.proofs.Documents.{at_key, at_no_key}
use Rattle.documents.proofs.ProjectTexts.{HasProject, bad_extras, no_dependencies, project_dynamic}
use Rattle.documents.proofs.ProjectTexts.{project_missing, project_no_table, project_whole}
use Rattle.documents.proofs.project.project_texts.Goals as goal
use Rattle.documents.proofs.project.project_texts.Goals.{In-Some-as_table}

has_project : (c : In-Some-as_table) →
    HasProject (table_view c.args.document.now) (table_view c.in-Some-as_table.project.now)
has_project c = record {
  value = view c.in-Some.found.now;
  found = at_key (codes "project") c.args.document.now c.get.result c.in-Some.found c.in-Some.is
      c.get.ensures.value;
  is_table = search rules;
}

pub returns-in_default-clause-refused : goal.returns-in_default-clause-refused
returns-in_default-clause-refused c =
    inr (project_missing c.args.extra.now (table_view c.args.document.now)
    (at_no_key (codes "project") c.args.document.now c.get.result c.in_default.is
    c.get.ensures.value))

pub returns-in_default-as_table-clause-refused : goal.returns-in_default-as_table-clause-refused
returns-in_default-as_table-clause-refused c =
    let none : as_table (view c.in-Some.found.now) ≡ None = search rules in
    inr (project_no_table c.args.extra.now (table_view c.args.document.now) _
    (at_key (codes "project") c.args.document.now c.get.result c.in-Some.found c.in-Some.is
    c.get.ensures.value) none)

pub returns-in_err-check_dynamic-clause-refused : goal.returns-in_err-check_dynamic-clause-refused
returns-in_err-check_dynamic-clause-refused c =
    let at = goal.at.returns-in_err-check_dynamic-clause-refused c in
    let has = has_project at.In-Some-as_table in
    handed_on _ c.from_residual.result _ c.from_residual.ensures.1
    (further (project_dynamic c.args.extra.now _ _ has c.in_err-check_dynamic.field-0.0)
    c.in_err-check_dynamic.ensures.refused)

pub returns-in_err-texts-clause-refused : goal.returns-in_err-texts-clause-refused
returns-in_err-texts-clause-refused c =
    let has = has_project (goal.at.returns-in_err-texts-clause-refused c).In-Some-as_table in
    handed_on _ c.from_residual-in_err-texts.result _ c.from_residual-in_err-texts.ensures.1
    (further (no_dependencies c.args.extra.now _ _ has c.in_err-texts.field-0.0
    c.in_ok-check_dynamic.ensures.ok) c.in_err-texts.ensures.refused)

pub returns-in_err-optional-clause-refused : goal.returns-in_err-optional-clause-refused
returns-in_err-optional-clause-refused c =
    let has = has_project (goal.at.returns-in_err-optional-clause-refused c).In-Some-as_table in
    handed_on _ c.from_residual-in_err-optional.result _ c.from_residual-in_err-optional.ensures.1
    (further (bad_extras c.args.extra.now _ _ has c.in_err-optional.field-0.0
    (lent_texts c.in_ok-texts.texts.items) c.in_ok-check_dynamic.ensures.ok
    c.in_ok-texts.ensures.ok) c.in_err-optional.ensures.refused)

pub returns-clause-ok : goal.returns-clause-ok
returns-clause-ok c =
    let has = has_project (goal.at.returns-clause-ok c).In-Some-as_table in
    let whole = project_whole c.args.extra.now _ _ has (lent_texts c.in_ok-texts.texts.items)
    (lent_texts c.in_ok-optional.optional.items) c.in_ok-check_dynamic.ensures.ok
    c.in_ok-texts.ensures.ok c.in_ok-optional.ensures.ok in
    let grown : c.extend_from_slice.new.self.items
    ≡ c.in_ok-texts.texts.items ++ c.in_ok-optional.optional.items = search rules in
    whole ∙ ap Ok (sym (ap lent_texts grown ∙ map-append (λ (b : Bor (List ℕ)). b.now)
    c.in_ok-texts.texts.items c.in_ok-optional.optional.items))
