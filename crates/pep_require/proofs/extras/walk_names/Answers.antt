use Rattle.std.proofs.Common.{◌==◌, not, [], ◌∷◌, ◌++◌, refl, sym, ap, subst, ◌∙◌, lit<}
use Rattle.std.proofs.lemmas.Result.{err_from_is_err_and}
use Rattle.pep_require.proofs.ExtrasCuts.{CutAt, all_done, boundary-byte, cut_at, less_named, name_done, none_done, none_named_within, text_left}
use Rattle.std.specs.List.{prefix_len}
use Rattle.pep_require.proofs.ExtrasLoops.{nothing_within}
use Rattle.pep_require.proofs.FrontLemmas.{fault_by}
use Rattle.pep_require.specs.Way.Sink.{Adds, with_extra, with_named}
use Rattle.pep_require.proofs.SinkLemmas.{name_more, no_names}
use Rattle.pep_require.proofs.extras.walk_names.Given as given
use Rattle.pep_require.proofs.extras.walk_names.Goals as goal
use Rattle.pep_require.proofs.extras.walk_names.Goals.{After-split_at, In_ok-extra}

pub returns-then-is_empty-clause-ok : goal.returns-then-is_empty-clause-ok
returns-then-is_empty-clause-ok g c = (
  [],
  nothing_within c.args.inner.now c.stripped.result.now c.stripped.ensures
      (sym c.is_empty.ensures ∙ c.if-is_empty.true),
  no_names (g.S.LineSink.holds c.args.sink.now c.args.line.now),
)

pub loop-name-init : goal.loop-name-init
loop-name-init g c = (
  c.utf8.inner,
  refl,
  ([], none_done c.args.inner.now, no_names (g.S.LineSink.holds c.args.sink.now c.args.line.now)),
)

pub split_at-requires : goal.split_at-requires
split_at-requires g c =
    rw (c.run_before.ensures.count, c.as_bytes.ensures.value) (boundary-byte 44 (lit< tt) c.loop-name.left.now)

-- what is left is cut in front of the first comma
cut : (g : given.Over) (c : After-split_at g) → CutAt 44 c.loop-name.left.now c.split_at.result.0.now
    c.split_at.result.1.now
cut g c =
    cut_at 44 c.as_bytes.ensures.value c.run_before.ensures.count c.split_at.ensures.front
    c.split_at.ensures.back

pub returns-in_err-name-clause-refused : goal.returns-in_err-name-clause-refused
returns-in_err-name-clause-refused g c =
    let here = cut g (goal.at.returns-in_err-name-clause-refused g c).After-split_at in
    let done = c.loop-name.invariant.2 in
    let p = err_from_is_err_and c.from_residual.result c.from_residual.ensures.1 in
    rw (p.1, p.2) (fault_by c.in_err-name.ensures.refused
    (λ h. (
      h.0,
      none_named_within c.args.inner.now c.stripped.result.now c.loop-name.left.now c.split_at.result.0.now
          c.split_at.result.1.now done.0 c.stripped.ensures (sym c.is_empty.ensures ∙ c.if-is_empty.false)
          done.1 here h.1,
    )))

-- what the sink keeps of the names with one more
more : (g : given.Over) (c : In_ok-extra g) →
    Adds (g.S.LineSink.holds c.args.sink.now c.args.line.now)
    (g.S.LineSink.holds c.args.sink.now c.extra-in-loop-name.new.line)
    (with_named (c.loop-name.invariant.2.0 ++ c.in_ok-name.name ∷ []))
more g c =
    let holds = g.S.LineSink.holds in
    let done = c.loop-name.invariant.2 in
    let name = c.in_ok-name.name in
    name_more (holds c.args.sink.now c.args.line.now) (holds c.args.sink.now c.loop-name.line)
    (holds c.args.sink.now c.extra-in-loop-name.new.line) done.0 name done.2
    (subst (λ s. Adds (holds s c.loop-name.line) (holds s c.extra-in-loop-name.new.line) (with_extra name))
    c.loop-name.invariant.1 c.in_ok-extra.ensures.ok)

pub returns-in_default-clause-same : goal.returns-in_default-clause-same
returns-in_default-clause-same g c = c.in_ok-extra.ensures.same ∙ c.loop-name.invariant.1

pub returns-in_default-clause-ok : goal.returns-in_default-clause-ok
returns-in_default-clause-ok g c =
    let at = goal.at.returns-in_default-clause-ok g c in
    let done = c.loop-name.invariant.2 in
    let name = c.in_ok-name.name in (
      done.0 ++ name ∷ [],
      all_done c.args.inner.now c.loop-name.left.now c.split_at.result.0.now c.split_at.result.1.now name
          done.0 done.1 (cut g at.After-split_at) c.in_default.ensures c.in_ok-name.ensures.read,
      more g at.In_ok-extra,
    )

pub loop-name-smaller : goal.loop-name-smaller
loop-name-smaller g c =
    less_named c.loop-name.left.now c.split_at.result.0.now c.split_at.result.1.now c.in-Some.following.now
    (cut g (goal.at.loop-name-smaller g c).After-split_at) c.in-Some.ensures

pub loop-name-preserved : goal.loop-name-preserved
loop-name-preserved g c =
    let at = goal.at.loop-name-preserved g c in
    let done = c.loop-name.invariant.2 in
    let name = c.in_ok-name.name in (
      text_left c.loop-name.left.now c.split_at.result.1.now c.in-Some.following.now c.run_before.result
          c.loop-name.invariant.0
          (c.run_before.ensures.count ∙ ap (prefix_len (λ b. not (b == 44))) c.as_bytes.ensures.value)
          c.split_at.ensures.back c.in-Some.ensures,
      c.in_ok-extra.ensures.same ∙ c.loop-name.invariant.1,
      (
        done.0 ++ name ∷ [],
        name_done c.args.inner.now c.loop-name.left.now c.split_at.result.0.now c.split_at.result.1.now
            c.in-Some.following.now name done.0 done.1 (cut g at.After-split_at) c.in-Some.ensures
            c.in_ok-name.ensures.read,
        more g at.In_ok-extra,
      ),
    )
