use Rattle.std.proofs.Common.{◌++◌, ◌∙◌, ap, map, sym, take}
use Rattle.std.specs.List.{join_with_byte}
use Rattle.pep_version.specs.Text.{segment_text}
use Rattle.pep_version.specs.View.{segment_of}
use Rattle.pep_version.proofs.TextLemmas.{dot_before, segments-push, text-more}
use Rattle.pep_version.proofs.text.put_label.Goals as goal

pub loop-i-preserved : goal.loop-i-preserved
loop-i-preserved g c = λ told.
    let label = c.args.label.now in
    let front = join_with_byte 46 (map segment_text (map segment_of (take c.loop-i.i label))) in
    let part = segment_text (segment_of c.index-label-i.result) in
    let more = segments-push label c.loop-i.i c.index-label-i.result c.loop-i-test.true
    ∙ ap (λ s. front ++ (dot_before c.loop-i.i ++ segment_text (segment_of s)))
    (sym c.index-label-i.is) in
    text-more (g.T.TextOut.written c.if-not-is_empty.text) front (dot_before c.loop-i.i) part _
    (c.in_ok-put_segment.ensures.ok told) (c.in_ok-put_dot.ensures.ok told) (c.loop-i.invariant told) more
