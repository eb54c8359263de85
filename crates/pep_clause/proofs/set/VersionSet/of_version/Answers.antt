use Rattle.std.proofs.Common.{◌∙◌, subst, sym}
use Rattle.std.specs.Prelude.{IsTrue}
use Rattle.pep_clause.specs.Cut.{cut_cmp}
use Rattle.pep_clause.specs.Ends.{begin_cut, end_cut}
use Rattle.pep_clause.proofs.EndRows.{between-at, between-ends, ends-in_order}
use Rattle.pep_clause.proofs.set.VersionSet.of_version.Goals as goal

pub by_cuts-requires-clause-in_order : goal.by_cuts-requires-clause-in_order
by_cuts-requires-clause-in_order c =
    let v = c.args.version.now in
    let low = c.in_ok-low.ensures.place ∙ (λ i. begin_cut (c.begin.ensures i) v) in
    let high = c.in_ok-high.ensures.place ∙ (λ i. end_cut (c.end.ensures i) v) in
    λ t. (λ i. cut_cmp (low i) (high i))
    ∙ ends-in_order c.args.op v c.requires (subst IsTrue c.leaves_out.ensures t)

pub returns : goal.returns
returns c =
    let v = c.args.version.now in
    let low = c.in_ok-low.ensures.place ∙ (λ i. begin_cut (c.begin.ensures i) v) in
    let high = c.in_ok-high.ensures.place ∙ (λ i. end_cut (c.end.ensures i) v) in
    rw (sym (between-ends c.args.op v))
    (between-at c.by_cuts.result c.leaves_out.ensures low high c.by_cuts.ensures)
