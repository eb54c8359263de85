use Rattle.std.proofs.Common.{◌≡◌, ◌∙◌, ap, rules, subst, sym}
use Rattle.pep_version.specs.ByteOrder.{byte_cmp}
use Rattle.pep_clause.specs.Cut.{cut_cmp}
use Rattle.pep_clause.specs.CutView.{CutReadsBack, IsForm, form_cut}
use Rattle.pep_clause.proofs.CutsRead.{stored-order}
use Rattle.pep_clause.proofs.cut.Cut.order_to.Goals as goal

pub returns-in-Large-Large-clause-order : goal.returns-in-Large-Large-clause-order
returns-in-Large-Large-clause-order c =
    let l = c.in-Large-Large in
    let one : CutReadsBack l.bytes.value.items = subst IsForm l.is-0 c.self.invariant in
    let two : CutReadsBack l.other.value.items = subst IsForm l.is-1 c.other.invariant in
    let first : c.as_slice.result.now ≡ l.bytes.value.items = search rules in
    let second : c.as_slice-in-Large-Large.result.now ≡ l.other.value.items = search rules in
    let cut = sym (ap form_cut l.is-0) ∙ c.self.view_is in
    let other = sym (ap form_cut l.is-1) ∙ c.other.view_is in
    c.cmp-in-Large-Large.ensures ∙ (λ i. byte_cmp (first i) (second i))
    ∙ stored-order l.bytes.value.items l.other.value.items one two
    ∙ (λ i. cut_cmp (cut i) (other i))
