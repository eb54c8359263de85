use Rattle.std.proofs.Common.{◌≡◌, ◌++◌, ◌∙◌, ap, get_or, rules}
use Rattle.std.specs.Prelude.{bytes_eq}
use Rattle.texts.specs.Lines.{line}
use Rattle.pep_marker.specs.Header.{named_line}
use Rattle.pep_marker.specs.Way.HeaderLines.{IsHeaderValue}
use Rattle.pep_marker.proofs.HeaderLines.{finds_rows}
use Rattle.pep_marker.proofs.environment.Environment.+variables_in.Goals as goal

pub returns-clause-found : goal.returns-clause-found
returns-clause-found t c =
    let v = (get_or c.args.named.now 0 _).0 in
    let value = c.in-Some.value.now in
    let said : IsHeaderValue v value
    × (c.args.text.now ≡ line (named_line v value) ++ c.in-Some.behind.now) = search rules in
    finds_rows c.args.self.now c.header_value.ensures.environment c.args.named.now _ c.args.text.now
    c.in-Some.behind.now value c.eq-is_due.result c.in_ok-variables_in.field-0 c.found_behind.result
    c.in-len1-up.len_at_least said.0 said.1
    (c.eq-is_due.ensures ∙ ap (bytes_eq value) c.header_value.ensures.value)
    c.in_ok-variables_in.ensures.found c.found_behind.ensures
