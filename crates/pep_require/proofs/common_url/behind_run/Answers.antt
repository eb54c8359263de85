use Rattle.std.proofs.Common.{refl}
use Rattle.pep_require.proofs.UrlRuns.{label_passed, path_passed, tail_passed}
use Rattle.pep_require.proofs.common_url.behind_run.Goals as goal
use Rattle.pep_require.proofs.common_url.behind_run.Goals.{in-Word, in-Path, in-Query, in-Label}

pub returns-clause-rest : goal.returns-clause-rest
returns-clause-rest c =
    let spot = c.args.spot in
    let bytes = c.args.bytes.now in
    elim c.match-spot.branch [
      | in-Word w ↦ rw (c.split_at.ensures.back, w.run-is, w.label_run-run.ensures.count)
          (label_passed spot bytes w.in-Word.is)
      | in-Path w ↦ rw (c.split_at.ensures.back, w.run-is, w.path_run-run.ensures.count)
          (path_passed spot bytes w.in-Path.is)
      | in-Query w ↦ rw (c.split_at.ensures.back, w.run-is, w.tail_run-run.ensures.count)
          (tail_passed spot bytes w.in-Query.is)
      | in-Label w ↦ rw (c.split_at.ensures.back, w.run-is) refl
    ]
