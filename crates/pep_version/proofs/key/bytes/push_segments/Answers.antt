use Rattle.std.proofs.Common.{◌++◌, ◌∙◌, List, ap, sym, ℕ}
use Rattle.pep_version.specs.KeyBytes.{segment_bytes}
use Rattle.pep_version.specs.View.{segment_of}
use Rattle.pep_version.specs.declared.parts.Label.{Label}
use Rattle.pep_version.proofs.EndedLists.{ended-all, ended-map, ended-more}
use Rattle.pep_version.proofs.key.bytes.push_segments.Goals as goal

abbrev code : Label → List ℕ
code s = segment_bytes (segment_of s)

pub loop-segment-preserved : goal.loop-segment-preserved
loop-segment-preserved c =
    let out = c.loop-segment.bytes.items in
    ended-more code c.args.label.now c.loop-segment.segment-index c.segment-item.result out c.push_segment.new.bytes.items c.loop-segment-test.true
    (c.in_ok-push_segment.ensures ∙ ap (λ (s : Label). out ++ code s) c.segment-item.is) ∙ c.loop-segment.invariant

pub returns : goal.returns
returns c =
    c.in_ok-push.ensures.ok ∙ ended-all code c.args.label.now c.loop-segment.segment-index c.loop-segment.bytes.items c.loop-segment-test.false ∙ c.loop-segment.invariant
    ∙ ap (λ (xs : List ℕ). c.args.bytes.now.items ++ xs) (sym (ended-map (segment_bytes) segment_of c.args.label.now))
