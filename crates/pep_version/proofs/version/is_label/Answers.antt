use Rattle.std.proofs.Common.{rules, subst}
use Rattle.std.specs.List.{All}
use Rattle.std.proofs.lemmas.List.{take_all}
use Rattle.std.proofs.lemmas.List.Elements.{All-more}
use Rattle.pep_version.specs.Version.{IsSegment, SegmentFits}
use Rattle.pep_version.specs.View.{segment_of}
use Rattle.pep_version.proofs.version.is_label.Goals as goal

pub loop-segment-preserved : goal.loop-segment-preserved
loop-segment-preserved c =
    let label = c.args.label.now in
    let d = c.segment-item.result in
    let segment : IsSegment (segment_of d) =
    c.is_segment.ensures.segment.0 c.if-not-is_segment.false in (
      All-more (λ s. IsSegment (segment_of s)) label c.loop-segment.segment-index d
          c.loop-segment-test.true c.loop-segment.invariant.0
          (subst (λ s. IsSegment (segment_of s)) c.segment-item.is segment),
      All-more (λ s. SegmentFits (segment_of s)) label c.loop-segment.segment-index d
          c.loop-segment-test.true c.loop-segment.invariant.1
          (subst (λ s. SegmentFits (segment_of s)) c.segment-item.is c.is_segment.ensures.fits),
    )

pub returns-clause-segments : goal.returns-clause-segments
returns-clause-segments c =
    let all : All (λ s. IsSegment (segment_of s)) c.args.label.now =
    rw (take_all c.loop-segment.segment-index c.args.label.now c.loop-segment-test.false)
    at c.loop-segment.invariant.0 in
    (λ _. all, λ _. search rules)

pub returns-clause-fits : goal.returns-clause-fits
returns-clause-fits c =
    let all : All (λ s. SegmentFits (segment_of s)) c.args.label.now =
    rw (take_all c.loop-segment.segment-index c.args.label.now c.loop-segment-test.false)
    at c.loop-segment.invariant.1 in λ _. all
