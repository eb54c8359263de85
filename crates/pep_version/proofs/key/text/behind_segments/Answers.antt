use Rattle.std.proofs.Common.{◌∙◌, ◌<◌, ◌++◌, ◌∷◌, [], arith, get_or, sym}
use Rattle.pep_version.specs.KeyReading.{read_segment, read_segments}
use Rattle.pep_version.proofs.KeyLoops.{at_end, at_start, behind, none_left, one_more, segment_left}
use Rattle.pep_version.proofs.key.text.behind_segments.Goals as goal

pub loop-rest-init : goal.loop-rest-init
loop-rest-init c = ([], at_start read_segment c.args.bytes.now)

pub returns-then-mark-eq0 : goal.returns-then-mark-eq0
returns-then-mark-eq0 c =
    let so_far = c.loop-rest.invariant in
    behind c.loop-rest.rest.now
    ∙ sym (at_end read_segment (read_segments c.args.bytes.now) so_far.0
    c.loop-rest.rest.now so_far.1 c.if-mark-eq0.true).1

pub loop-rest-smaller : goal.loop-rest-smaller
loop-rest-smaller c =
    rw c.behind_segment-rest.ensures (segment_left c.loop-rest.rest.now c.in-len1-up.len_at_least)

pub loop-rest-preserved : goal.loop-rest-preserved
loop-rest-preserved c =
    let rest = c.loop-rest.rest.now in
    let so_far = c.loop-rest.invariant in
    let some : 0 < get_or rest 0 0 = omega (arith, c.if-mark-eq0.false) in
    rw c.behind_segment-rest.ensures (
      so_far.0 ++ ((read_segment rest).0 ∷ []),
      one_more read_segment (read_segments c.args.bytes.now) so_far.0 rest so_far.1 some
          (segment_left rest c.in-len1-up.len_at_least),
    )

pub returns : goal.returns
returns c =
    let so_far = c.loop-rest.invariant in
    let none = none_left c.loop-rest.rest.now c.in_default.len_below in
    sym none.1
    ∙ sym (at_end read_segment (read_segments c.args.bytes.now) so_far.0
    c.loop-rest.rest.now so_far.1 none.0).1
