use Rattle.std.proofs.Common.{◌≡◌, ◌++◌, rules, subst, sym}
use Rattle.texts.specs.Lines.{line}
use Rattle.pep_marker.specs.Header.{FindsHeader, form_line}
use Rattle.pep_marker.proofs.HeaderLines.{finds_header}
use Rattle.pep_marker.proofs.environment.Environment.header_in.Goals as goal

pub returns-clause-found : goal.returns-clause-found
returns-clause-found c =
    let e = c.args.self.now in
    let text = c.args.text.now in
    let cut : text ≡ line form_line ++ c.in-Some.behind.now = search rules in
    subst (FindsHeader e text) (sym c.found_behind.ensures)
    (finds_header e text c.in-Some.behind.now cut c.in_ok-variables_in.field-0 c.in_ok-variables_in.ensures.found)
