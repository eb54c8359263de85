use Rattle.std.proofs.Common.{◌∙◌, ◌<◌, ◌++◌, ◌∷◌, [], ap, append-nil, arith, get_or, refl, sym}
use Rattle.std.proofs.lemmas.List.{length-append}
use Rattle.pep_version.specs.KeyReading.{read_segment, read_segments}
use Rattle.pep_version.specs.Text.{segment_text}
use Rattle.pep_version.specs.Version.{IsSegment}
use Rattle.pep_version.proofs.KeyLoops.{at_end, at_start, is_next, none_left, one_more, segment_left}
use Rattle.texts.proofs.Results.{at_err}
use Rattle.pep_version.proofs.KeyTexts.{extends_on, segments_more, segments_text}
use Rattle.pep_version.proofs.TextLemmas.{dot_before, text-more}
use Rattle.pep_version.proofs.key.text.put_segments_at.Goals as goal

pub loop-rest-init : goal.loop-rest-init
loop-rest-init g c = (
  [],
  at_start read_segment c.args.bytes.now,
  refl,
  omega arith,
  λ told. sym (append-nil (g.T.TextOut.written c.args.text.now)),
)

pub put_segment_at-requires : goal.put_segment_at-requires
put_segment_at-requires g c =
    let rest = c.loop-rest.rest.now in
    let so_far = c.loop-rest.invariant in
    let some : 0 < get_or rest 0 0 = omega (arith, c.if-mark-eq0.false) in
    is_next read_segment IsSegment (read_segments c.args.bytes.now) so_far.0 rest so_far.1 some
    (segment_left rest c.in-len1-up.len_at_least) c.requires

pub loop-rest-smaller : goal.loop-rest-smaller
loop-rest-smaller g c =
    rw c.behind_segment-rest.ensures (segment_left c.loop-rest.rest.now c.in-len1-up.len_at_least)

pub loop-rest-preserved : goal.loop-rest-preserved
loop-rest-preserved g c =
    let rest = c.loop-rest.rest.now in
    let so_far = c.loop-rest.invariant in
    let done = so_far.0 in
    let s = (read_segment rest).0 in
    let left = segment_left rest c.in-len1-up.len_at_least in
    let count = so_far.2 in
    let bound = so_far.3 in
    let some : 0 < get_or rest 0 0 = omega (arith, c.if-mark-eq0.false) in
    rw c.behind_segment-rest.ensures (
      done ++ (s ∷ []),
      one_more read_segment (read_segments c.args.bytes.now) done rest so_far.1 some left,
      omega (arith, count, length-append done (s ∷ [])),
      omega (arith, bound, left, length-append done (s ∷ [])),
      λ told. text-more (g.T.TextOut.written c.args.text.now) (segments_text done)
          (dot_before c.loop-rest.count) (segment_text s) _
          (c.in_ok-put_segment_at.ensures.ok told) (c.in_ok-put_dot.ensures.ok told) (so_far.4 told)
          (segments_more done s
          ∙ (λ i. segments_text done ++ (dot_before (sym count i) ++ segment_text s))),
    )

pub returns-in_err-put_dot-clause-kept : goal.returns-in_err-put_dot-clause-kept
returns-in_err-put_dot-clause-kept g c =
    at_err c.from_residual.result (λ told. extends_on _ _ (c.loop-rest.invariant.4 told) (c.in_err-put_dot.ensures.kept told))

pub returns-in_err-put_segment_at-clause-kept : goal.returns-in_err-put_segment_at-clause-kept
returns-in_err-put_segment_at-clause-kept g c =
    at_err c.from_residual-in_err-put_segment_at.result (λ told. extends_on _ _ (c.loop-rest.invariant.4 told)
    (extends_on _ _ (c.in_ok-put_dot.ensures.ok told) (c.in_err-put_segment_at.ensures.kept told)))

pub returns-then-mark-eq0-clause-ok : goal.returns-then-mark-eq0-clause-ok
returns-then-mark-eq0-clause-ok g c = λ told.
    let so_far = c.loop-rest.invariant in
    so_far.4 told ∙ ap (λ done. g.T.TextOut.written c.args.text.now ++ segments_text done)
    (sym (at_end read_segment (read_segments c.args.bytes.now) so_far.0 c.loop-rest.rest.now so_far.1
    c.if-mark-eq0.true).0)

pub returns-clause-ok : goal.returns-clause-ok
returns-clause-ok g c = λ told.
    let so_far = c.loop-rest.invariant in
    so_far.4 told ∙ ap (λ done. g.T.TextOut.written c.args.text.now ++ segments_text done)
    (sym (at_end read_segment (read_segments c.args.bytes.now) so_far.0 c.loop-rest.rest.now so_far.1
    (none_left c.loop-rest.rest.now c.in_default.len_below).0).0)
