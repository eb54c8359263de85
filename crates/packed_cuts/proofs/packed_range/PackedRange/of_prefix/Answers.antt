use Rattle.std.proofs.Common.{rules}
use Rattle.packed_cuts.specs.Way.PackedRange.{release_prefix}
use Rattle.packed_cuts.proofs.ReleaseRanges.{holds_release_prefix}
use Rattle.packed_cuts.proofs.packed_range.PackedRange.of_prefix.Goals as goal

pub returns-clause-clause : goal.returns-clause-clause
returns-clause-clause c =
    holds_release_prefix c.args.operator c.args.release.now c.prefix_ends.result
    ((c.takes_prefix.ensures.clause (release_prefix c.args.release.now)).0 (search rules)) c.prefix_ends.ensures.low
    c.prefix_ends.ensures.high
