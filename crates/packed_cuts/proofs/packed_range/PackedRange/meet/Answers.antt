use Rattle.std.proofs.Common.{◌&&◌, ◌∙◌, sym}
use Rattle.pep_clause.specs.OperatorTable.{range}
use Rattle.pep_clause.specs.VersionSet.{is_point}
use Rattle.pep_clause.proofs.JoinedPoints.{is_point-range, is_point-range_joined}
use Rattle.packed_cuts.proofs.packed_range.PackedRange.meet.Goals as goal

pub returns-clause-points : goal.returns-clause-points
returns-clause-points c =
    let old = c.args.self.now in
    let other = c.args.other in λ cut.
    (λ i. is_point (range (c.later-self.ensures i) (c.earlier-self.ensures i)) cut)
    ∙ is_point-range_joined (record { low = old.low; high = old.high })
    (record { low = other.low; high = other.high }) cut
    ∙ (λ i. sym (is_point-range old.low old.high cut) i && sym (is_point-range other.low other.high cut) i)
