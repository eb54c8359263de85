use Rattle.std.proofs.Common.{◌∙◌, ◌++◌, ◌∷◌, [], refl, sym, subst}
use Rattle.std.proofs.lemmas.Result.{err_from_is_err_and}
use Rattle.pep_require.proofs.BoundLoops.{ends_at_comma, ends_here, less_left, none_yet, one_more, refused_here}
use Rattle.pep_require.specs.Way.Sink.{AddsClauses}
use Rattle.pep_require.proofs.SinkLemmas.{and_more, no_more}
use Rattle.pep_require.proofs.clauses.walk_clauses.Given as given
use Rattle.pep_require.proofs.clauses.walk_clauses.Goals as goal
use Rattle.pep_require.proofs.clauses.walk_clauses.Goals.{In_ok-rest}

pub loop-rest-init : goal.loop-rest-init
loop-rest-init g c = (
  c.utf8.text,
  refl,
  ([], none_yet c.args.closed c.args.text.now, no_more (g.S.LineSink.holds c.args.sink.now c.args.line.now)),
)

pub returns-in_err-rest-clause-same : goal.returns-in_err-rest-clause-same
returns-in_err-rest-clause-same g c = c.in_err-rest.ensures.same ∙ c.loop-rest.invariant.1

pub returns-in_err-rest-clause-refused : goal.returns-in_err-rest-clause-refused
returns-in_err-rest-clause-refused g c =
    let p = err_from_is_err_and c.from_residual.result c.from_residual.ensures.1 in
    rw (p.1, p.2) (refused_here c.args.closed c.args.text.now c.loop-rest.left.now
    c.loop-rest.invariant.2.0 c.in_err-rest.field-0.0 c.loop-rest.invariant.2.1
    c.in_err-rest.ensures.refused)

pub returns-in_default-clause-same : goal.returns-in_default-clause-same
returns-in_default-clause-same g c = c.in_ok-rest.ensures.same ∙ c.loop-rest.invariant.1

-- what the sink keeps of the clauses with one more
more : (g : given.Over) (c : In_ok-rest g) →
    AddsClauses (g.S.LineSink.holds c.args.sink.now c.args.line.now)
    (g.S.LineSink.holds c.args.sink.now c.clause.new.line)
    (c.loop-rest.invariant.2.0 ++ c.in_ok-rest.ensures.ok.0 ∷ [])
more g c =
    let holds = g.S.LineSink.holds in
    let here = subst (λ s. AddsClauses (holds s c.loop-rest.line) (holds s c.clause.new.line)
    (c.in_ok-rest.ensures.ok.0 ∷ [])) c.loop-rest.invariant.1 c.in_ok-rest.ensures.ok.2 in
    and_more (holds c.args.sink.now c.args.line.now) (holds c.args.sink.now c.loop-rest.line)
    (holds c.args.sink.now c.clause.new.line) c.loop-rest.invariant.2.0 (c.in_ok-rest.ensures.ok.0 ∷ [])
    c.loop-rest.invariant.2.2 here

pub returns-in_default-clause-ok : goal.returns-in_default-clause-ok
returns-in_default-clause-ok g c =
    let done = c.loop-rest.invariant.2 in
    let here = c.in_ok-rest.ensures.ok in (
      done.0 ++ here.0 ∷ [],
      ends_here c.args.closed c.args.text.now c.loop-rest.left.now c.in_ok-rest.rest.now
          done.0 here.0 done.1 here.1 c.in_default.ensures,
      more g (goal.at.returns-in_default-clause-ok g c).In_ok-rest,
    )

pub returns-then-is_end-clause-same : goal.returns-then-is_end-clause-same
returns-then-is_end-clause-same g c = c.in_ok-rest.ensures.same ∙ c.loop-rest.invariant.1

pub returns-then-is_end-clause-ok : goal.returns-then-is_end-clause-ok
returns-then-is_end-clause-ok g c =
    let done = c.loop-rest.invariant.2 in
    let here = c.in_ok-rest.ensures.ok in (
      done.0 ++ here.0 ∷ [],
      ends_at_comma c.args.closed c.args.text.now c.loop-rest.left.now c.in_ok-rest.rest.now
          c.in-Some.following.now c.stripped-left.result.now done.0 here.0 done.1 here.1 c.in-Some.ensures
          c.stripped-left.ensures (sym c.is_end.ensures ∙ c.if-is_end.true),
      more g (goal.at.returns-then-is_end-clause-ok g c).In_ok-rest,
    )

pub loop-rest-smaller : goal.loop-rest-smaller
loop-rest-smaller g c =
    less_left c.loop-rest.left.now c.in_ok-rest.rest.now c.in-Some.following.now
    c.stripped-left.result.now c.in_ok-rest.ensures.ok.0 c.in_ok-rest.ensures.ok.1 c.in-Some.ensures
    c.stripped-left.ensures

pub loop-rest-preserved : goal.loop-rest-preserved
loop-rest-preserved g c =
    let done = c.loop-rest.invariant.2 in
    let here = c.in_ok-rest.ensures.ok in (
      c.stripped-left.utf8,
      c.in_ok-rest.ensures.same ∙ c.loop-rest.invariant.1,
      (
        done.0 ++ here.0 ∷ [],
        one_more c.args.closed c.args.text.now c.loop-rest.left.now c.in_ok-rest.rest.now
            c.in-Some.following.now c.stripped-left.result.now done.0 here.0 done.1 here.1
            c.in-Some.ensures c.stripped-left.ensures (sym c.is_end.ensures ∙ c.if-is_end.false),
        more g (goal.at.loop-rest-preserved g c).In_ok-rest,
      ),
    )
