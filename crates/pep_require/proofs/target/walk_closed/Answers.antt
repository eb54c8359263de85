use Rattle.std.proofs.Common.{[], inr, subst, true}
use Rattle.std.proofs.lemmas.Result.{err_from_is_err_and}
use Rattle.pep_require.specs.LineParts.{BoundsFrom, bad_closed, closed_target, not_closed}
use Rattle.pep_require.specs.Requirement.{bounds}
use Rattle.pep_require.proofs.FrontLemmas.{fault_by}
use Rattle.pep_require.proofs.target.walk_closed.Goals as goal

pub returns-in_err-inside-clause-refused : goal.returns-in_err-inside-clause-refused
returns-in_err-inside-clause-refused g c =
    let p = err_from_is_err_and c.from_residual.result c.from_residual.ensures.1 in
    rw (p.1, p.2) (fault_by c.in_err-inside.ensures.refused (λ h. bad_closed h))

pub returns-in-None-clause-refused : goal.returns-in-None-clause-refused
returns-in-None-clause-refused g c =
    inr (not_closed c.in_ok-inside.ensures.ok.1 c.in-None.ensures)

pub returns-in-Some-clause-ok : goal.returns-in-Some-clause-ok
returns-in-Some-clause-ok g c =
    let found = c.in_ok-inside.ensures.ok in (
      bounds found.0,
      closed_target (subst (BoundsFrom true c.args.text.now found.0) c.in-Some.ensures found.1),
      λ p bare held. found.2 p [] bare held,
    )
