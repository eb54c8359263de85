use Rattle.std.proofs.Common.{◌≡◌, ◌∙◌, ◌<◌, ◌++◌, ◌∷◌, [], ap, arith, get_or, map, sym}
use Rattle.std.proofs.lemmas.List.{map-append}
use Rattle.pep_version.specs.KeyReading.{read_segment, read_segments}
use Rattle.pep_version.specs.Version.{IsSegment, Segment}
use Rattle.pep_version.specs.View.{segment_of}
use Rattle.pep_version.proofs.KeyLoops.{at_end, behind, is_next, none_left, one_more, segment_left}
use Rattle.pep_version.proofs.key.read.take_segments.Goals as goal

pub returns-in-None-clause-is_read : goal.returns-in-None-clause-is_read
returns-in-None-clause-is_read c = λ all.
    let rest = c.loop-rest.rest.now in
    let some : 0 < get_or rest 0 0 = omega (arith, c.if-mark-eq0.false) in
    let next =
    is_next read_segment IsSegment (read_segments c.args.bytes.now)
    (map segment_of c.loop-rest.label.items) rest c.loop-rest.invariant some
    (segment_left rest c.in-len1-up.len_at_least) all in
    rw c.in-None.is at (c.in_ok-segment.ensures.is_read next)

pub loop-rest-smaller : goal.loop-rest-smaller
loop-rest-smaller c =
    rw c.in_ok-segment.ensures.rest (segment_left c.loop-rest.rest.now c.in-len1-up.len_at_least)

pub loop-rest-preserved : goal.loop-rest-preserved
loop-rest-preserved c =
    let rest = c.loop-rest.rest.now in
    let done = map segment_of c.loop-rest.label.items in
    let some : 0 < get_or rest 0 0 = omega (arith, c.if-mark-eq0.false) in
    let one : segment_of c.in-Some.segment ≡ (read_segment rest).0 =
    rw c.in-Some.is at c.in_ok-segment.ensures.segment in
    let more : map segment_of c.push.new.self.items ≡ done ++ ((read_segment rest).0 ∷ []) =
    ap (map segment_of) c.in_ok-push-in-Some.ensures.items
    ∙ map-append segment_of c.loop-rest.label.items (c.in-Some.segment ∷ [])
    ∙ ap (λ (s : Segment). done ++ (s ∷ [])) one in
    rw (more, c.in_ok-segment.ensures.rest) (one_more read_segment (read_segments c.args.bytes.now)
    done rest c.loop-rest.invariant some (segment_left rest c.in-len1-up.len_at_least))

pub returns-clause-label : goal.returns-clause-label
returns-clause-label c =
    sym (at_end read_segment (read_segments c.args.bytes.now)
    (map segment_of c.loop-rest.label.items) c.loop-rest.rest.now c.loop-rest.invariant
    (none_left c.loop-rest.rest.now c.in_default.len_below).0).0

pub returns-then-mark-eq0-clause-label : goal.returns-then-mark-eq0-clause-label
returns-then-mark-eq0-clause-label c =
    sym (at_end read_segment (read_segments c.args.bytes.now)
    (map segment_of c.loop-rest.label.items) c.loop-rest.rest.now c.loop-rest.invariant
    c.if-mark-eq0.true).0

pub returns-then-mark-eq0-clause-rest : goal.returns-then-mark-eq0-clause-rest
returns-then-mark-eq0-clause-rest c =
    behind c.loop-rest.rest.now
    ∙ sym (at_end read_segment (read_segments c.args.bytes.now)
    (map segment_of c.loop-rest.label.items) c.loop-rest.rest.now c.loop-rest.invariant
    c.if-mark-eq0.true).1

pub returns-clause-rest : goal.returns-clause-rest
returns-clause-rest c =
    let none = none_left c.loop-rest.rest.now c.in_default.len_below in
    sym none.1
    ∙ sym (at_end read_segment (read_segments c.args.bytes.now)
    (map segment_of c.loop-rest.label.items) c.loop-rest.rest.now c.loop-rest.invariant none.0).1
