use Rattle.std.proofs.Common.{◌≡◌, ◌++◌, ◌∙◌}
use Rattle.pep_clause.specs.Cut.{least}
use Rattle.pep_clause.specs.OperatorTable.{outside, range}
use Rattle.pep_clause.specs.SetView.{ranges_of}
use Rattle.pep_clause.proofs.RangeRows.{IsNormal-outside}
use Rattle.pep_clause.proofs.set.VersionSet.outside.Goals as goal
use Rattle.pep_clause.proofs.set.VersionSet.outside.Goals.{After-of_list}

-- the ranges that are kept
ranges_are : (c : After-of_list) → ranges_of c.of_list.result ≡ outside c.args.low c.args.high
ranges_are c =
    let none = c.new-ranges.ensures.items in
    let first = c.least.ensures in
    let last = c.end.ensures in
    let under : c.push_range.new.done.items ≡ range least c.args.low =
    c.in_ok-push_range.ensures ∙ (λ i. none i ++ range (first i) c.args.low) in
    c.of_list.ensures ∙ c.in_ok-push_range-2.ensures ∙ (λ i. under i ++ range c.args.high (last i))

pub invariant_of-result : goal.invariant_of-result
invariant_of-result c =
    rw (ranges_are c) (IsNormal-outside c.args.low c.args.high c.requires.low c.requires.high
    c.requires.in_order)

pub returns : goal.returns
returns c = ranges_are c
