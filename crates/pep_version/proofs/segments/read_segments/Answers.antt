use Rattle.std.proofs.Common.{Global, Vec, ◌≡◌, map}
use Rattle.std.proofs.lemmas.Result.{err_from_is_err_and}
use Rattle.std.specs.List.{AllByRecursion}
use Rattle.pep_version.specs.Way.Slices.{label_of, lower}
use Rattle.pep_version.specs.Spelling.{segment_of_run}
use Rattle.pep_version.specs.declared.parts.Label.{Label}
use Rattle.pep_version.specs.Version.{SegmentFits}
use Rattle.pep_version.specs.View.{segment_of}
use Rattle.pep_version.proofs.Answering.{handed}
use Rattle.pep_version.proofs.SliceLemmas.{segment-fits}
use Rattle.pep_version.proofs.segments.read_segments.Goals as goal

pub returns-in_err-read_segment : goal.returns-in_err-read_segment
returns-in_err-read_segment c =
    let p = err_from_is_err_and c.from_residual.result c.from_residual.ensures.1 in
    let run = c.first_run.result.0.now in
    let whole = rw (c.in-Some.is, c.first_run.ensures.runs) at c.loop-rest.invariant.0 in
    let fit : AllByRecursion SegmentFits (label_of c.args.label) →
    SegmentFits (segment_of_run (lower run)) =
    segment-fits (map segment_of c.loop-rest.segments.items) (segment_of_run (lower run))
    (label_of c.first_run.result.1) (label_of c.args.label) whole in
    rw (p.1, p.2) (handed (λ a. segment_of a ≡ segment_of_run (lower run))
    (λ (a : Vec Label Global). map segment_of a.items ≡ label_of c.args.label)
    (SegmentFits (segment_of_run (lower run))) (AllByRecursion SegmentFits
    (label_of c.args.label)) c.in_err-read_segment.field-0.0 fit c.in_err-read_segment.ensures)
