use Rattle.std.proofs.Common.{◌≡◌, ap, rules, subst}
use Rattle.std.specs.Prelude.{IfOk}
use Rattle.pep_version.specs.Order.{place_of, with_suffixes}
use Rattle.pep_clause.specs.Cut.{before}
use Rattle.pep_clause.proofs.cut.Cut.before_suffixed.Goals as goal

pub returns-clause-place : goal.returns-clause-place
returns-clause-place c =
    let place : c.in_ok-key.key ≡ place_of (with_suffixes c.args.version.now c.args.pre c.args.post c.args.dev) = search rules in
    subst (λ x. IfOk c.before_key.result (λ k. k ≡ x)) (ap before place) c.before_key.ensures.place
