use Rattle.std.proofs.Common.{arith, rules}
use Rattle.std.specs.Ordering.{is_lt}
use Rattle.std.proofs.lemmas.List.Sorted.{IsPartitionPoint-from_clause}
use Rattle.pep_clause.specs.Cut.{cut_cmp}
use Rattle.reasons.specs.declared.apart.Point.{Point}
use Rattle.reasons.proofs.PointOrder.{below_first}
use Rattle.reasons.proofs.apart.count_below.Goals as goal

pub returns-clause-below : goal.returns-clause-below
returns-clause-below c = λ k d lt.
    let found = IsPartitionPoint-from_clause (λ (p : Point). is_lt (cut_cmp p.cut c.args.cut.now))
    c.args.points.now c.partition_point.result c.partition_point.ensures.partitioned
    (below_first c.args.points.now c.args.cut.now c.requires.rising) (λ a r f called. search rules) in
    found.0 k d (omega arith) lt
