use Rattle.std.proofs.Common.{◌∙◌, Some, rules}
use Rattle.std.specs.Prelude.{IsOk}
use Rattle.specifiers.specs.Clause.{version_clause}
use Rattle.pep_clause.specs.Ends.{begin_cut, end_cut}
use Rattle.pep_clause.specs.PackedCut.{release_alone}
use Rattle.packed_cuts.proofs.ReleaseRanges.{holds_release}
use Rattle.packed_cuts.proofs.packed_range.PackedRange.of_release.Goals as goal

pub returns-clause-clause : goal.returns-clause-clause
returns-clause-clause c =
    let v = release_alone c.args.release.now in
    let made : IsOk (version_clause c.args.operator v) = search rules in
    holds_release c.args.operator c.args.release.now (Some (record { low = c.in_ok-low.low; high = c.in_ok-high.high }))
    made (c.in_ok-low.ensures.cut ∙ (λ i. begin_cut (c.begin.ensures i) v))
    (c.in_ok-high.ensures.cut ∙ (λ i. end_cut (c.end.ensures i) v))
