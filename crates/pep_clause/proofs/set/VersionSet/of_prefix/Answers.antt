use Rattle.std.proofs.Common.{◌∙◌, sym}
use Rattle.specifiers.specs.Clause.{prefix_of}
use Rattle.specifiers.proofs.FinalVersion.{IsVersion-prefix_of}
use Rattle.pep_clause.specs.Cut.{cut_cmp}
use Rattle.pep_clause.proofs.EndRows.{between-at, between-prefix}
use Rattle.pep_clause.proofs.PrefixRows.{before_prefix-below_end, prefix_high-at, prefix_low-at}
use Rattle.pep_clause.proofs.set.VersionSet.of_prefix.Goals as goal

pub by_cuts-requires-clause-in_order : goal.by_cuts-requires-clause-in_order
by_cuts-requires-clause-in_order c =
    let v = c.args.prefix.now in
    let numbers = c.release-release.ensures.numbers in
    let low = prefix_low-at v c.in_ok-low.ensures.place c.epoch-epoch.ensures numbers in
    let high = prefix_high-at v c.in_ok-high.ensures.place c.epoch-epoch.ensures numbers in
    λ t. (λ i. cut_cmp (low i) (high i)) ∙ before_prefix-below_end (prefix_of v)
    (IsVersion-prefix_of v c.release-release.ensures.version)

pub returns : goal.returns
returns c =
    let v = c.args.prefix.now in
    let numbers = c.release-release.ensures.numbers in
    let low = prefix_low-at v c.in_ok-low.ensures.place c.epoch-epoch.ensures numbers in
    let high = prefix_high-at v c.in_ok-high.ensures.place c.epoch-epoch.ensures numbers in
    rw (sym (between-prefix c.args.op (prefix_of v)))
    (between-at c.by_cuts.result c.leaves_out.ensures low high c.by_cuts.ensures)
