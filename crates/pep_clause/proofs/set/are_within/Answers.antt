use Rattle.std.proofs.Common.{◌∙◌}
use Rattle.pep_clause.proofs.JoinedPoints.{one_other}
use Rattle.pep_clause.proofs.set.are_within.Goals as goal

pub returns-in-len1 : goal.returns-in-len1
returns-in-len1 c =
    c.all_within.ensures ∙ one_other c.args.ranges.now c.args.other_ranges.now c.other-item.result
    c.in-len1.len_at_least c.in-len1.len_below c.other-item.is
