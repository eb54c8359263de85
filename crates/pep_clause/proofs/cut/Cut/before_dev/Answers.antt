use Rattle.std.proofs.Common.{◌≡◌, Some, ap, rules, subst}
use Rattle.std.specs.Prelude.{IfOk}
use Rattle.pep_version.specs.Order.{place_of, release_version}
use Rattle.pep_clause.specs.Cut.{before}
use Rattle.pep_clause.proofs.cut.Cut.before_dev.Goals as goal

pub returns-clause-place : goal.returns-clause-place
returns-clause-place c =
    let place : c.in_ok-key.key ≡ place_of (release_version c.args.epoch c.args.release.now (Some 0)) = search rules in
    subst (λ x. IfOk c.before_key.result (λ k. k ≡ x)) (ap before place) c.before_key.ensures.place
