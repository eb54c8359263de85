use Rattle.std.proofs.Common.{not, subst}
use Rattle.std.proofs.lemmas.Result.{err_from_is_err_and}
use Rattle.texts.specs.Bytes.{is_blank_byte}
use Rattle.pep_require.specs.LineParts.{RefusesWritten, bad_url, url_target}
use Rattle.pep_require.specs.Requirement.{direct}
use Rattle.pep_require.proofs.FrontLemmas.{RunCut, boundary-url, fault_by, run_cut}
use Rattle.pep_require.proofs.TargetLaws.{url_here}
use Rattle.pep_require.proofs.target.walk_url.Goals as goal
use Rattle.pep_require.proofs.target.walk_url.Given as given
use Rattle.pep_require.proofs.target.walk_url.Goals.{After-split_at}

pub split_at-requires : goal.split_at-requires
split_at-requires g c =
    rw (c.url_run.ensures.count, c.as_bytes.ensures.value)
    (boundary-url c.stripped-text.result.now)

-- the text is cut behind the run without white space
cut : (g : given.Over) (c : After-split_at g) → RunCut (λ b. not (is_blank_byte b)) c.args.text.now
    c.split_at.result.0.now c.split_at.result.1.now
cut g c =
    run_cut (λ b. not (is_blank_byte b)) c.stripped-text.ensures c.as_bytes.ensures.value
    c.url_run.ensures.count c.split_at.ensures.front c.split_at.ensures.back

pub returns-in_err-url-clause-refused : goal.returns-in_err-url-clause-refused
returns-in_err-url-clause-refused g c =
    let run = (cut g (goal.at.returns-in_err-url-clause-refused g c).After-split_at).front in
    let p = err_from_is_err_and c.from_residual.result c.from_residual.ensures.1 in
    rw (p.1, p.2) (fault_by c.in_err-url.ensures.refused
    (λ h. bad_url (subst (λ w. RefusesWritten w c.in_err-url.field-0.0) run h)))

pub returns-clause-ok : goal.returns-clause-ok
returns-clause-ok g c =
    let here = c.in_ok-url.ensures.ok in (
      direct here.0,
      url_target (url_here c.args.text.now c.split_at.result.0.now c.split_at.result.1.now
          here.0 (cut g (goal.at.returns-clause-ok g c).After-split_at) here.1),
      here.2,
    )
