use Rattle.std.proofs.Common.{◌++◌, ◌∙◌, ap, append_assoc, length, sym}
use Rattle.pep_c.proofs.parts.input_of.Goals as goal

pub returns-clause-input : goal.returns-clause-input
returns-clause-input c =
    let group = c.in-Some-cut.group.now in
    let own = c.in-Some-cut-2.own.now in
    let first = c.in-Some-cut.ensures.cut in
    let second = c.in-Some-cut-2.ensures.cut in (
      group ++ own,
      first.0 ∙ ap (λ l. group ++ l) second.0 ∙ sym (append_assoc group own c.in-Some-cut-2.rest.now),
      record {
        group = group;
        whole = ap (λ l. group ++ l) (sym c.in_ok-bytes.ensures.items);
        group_size = first.1;
        size = ap length c.in_ok-bytes.ensures.items ∙ second.1;
        has_kind = sym c.kind_numbered.ensures ∙ c.in-Some.is;
        asked = c.in_ok-group.ensures.group;
      },
    )
