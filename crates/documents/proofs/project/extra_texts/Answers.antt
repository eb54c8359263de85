use Rattle.std.proofs.Common.{◌≡◌, None, Some, codes, inr, rules}
use Rattle.toml.specs.Data.{as_table, get_member}
use Rattle.toml.specs.View.{table_view, view}
use Rattle.pep_marker.specs.Name.{normalized}
use Rattle.documents.proofs.Documents.{at_key, at_no_key}
use Rattle.documents.proofs.ProjectTexts.{extras_missing, extras_no_table, extras_ok, extras_refused}
use Rattle.documents.proofs.project.extra_texts.Goals as goal
use Rattle.documents.proofs.project.extra_texts.Goals.{In-Some}

extras_found : (c : In-Some) →
    get_member (codes "optional-dependencies") (table_view c.args.project.now)
    ≡ Some (view c.in-Some.found.now)
extras_found c =
    at_key (codes "optional-dependencies") c.args.project.now c.get.result c.in-Some.found c.in-Some.is
    c.get.ensures.value

pub returns-in_default-clause-ok : goal.returns-in_default-clause-ok
returns-in_default-clause-ok c =
    let key = codes "optional-dependencies" in
    extras_missing key (table_view c.args.project.now) (normalized c.args.extra.now)
    c.new.result.items
    (at_no_key key c.args.project.now c.get.result c.in_default.is c.get.ensures.value) (search rules)

pub returns-in_default-as_table-clause-refused : goal.returns-in_default-as_table-clause-refused
returns-in_default-as_table-clause-refused c =
    let at = goal.at.returns-in_default-as_table-clause-refused c in
    let none : as_table (view c.in-Some.found.now) ≡ None = search rules in
    inr (extras_no_table (codes "optional-dependencies") (table_view c.args.project.now) _
    (extras_found at.In-Some) none)

pub returns-clause-ok : goal.returns-clause-ok
returns-clause-ok c =
    let at = goal.at.returns-clause-ok c in
    extras_ok (codes "optional-dependencies") (table_view c.args.project.now)
    (table_view c.in-Some-as_table.extras.now) _ (normalized c.args.extra.now) c.as_str.result.now
    c.wanted_texts.result (extras_found at.In-Some) (search rules) (search rules)
    c.wanted_texts.ensures.ok

pub returns-clause-refused : goal.returns-clause-refused
returns-clause-refused c =
    let at = goal.at.returns-clause-refused c in
    extras_refused (codes "optional-dependencies") (table_view c.args.project.now)
    (table_view c.in-Some-as_table.extras.now) _ c.wanted_texts.result (extras_found at.In-Some)
    (search rules) c.wanted_texts.ensures.refused
