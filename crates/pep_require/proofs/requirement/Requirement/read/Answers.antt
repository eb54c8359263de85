use Rattle.std.proofs.Common.{◌≡◌, List, ℕ, rules, subst, sym}
use Rattle.pep_require.specs.Way.Kept.{Keeps}
use Rattle.pep_require.specs.Way.Sink.{IsWalked}
use Rattle.pep_require.proofs.requirement.Requirement.read.Goals as goal

pub returns-clause-ok : goal.returns-clause-ok
returns-clause-ok c =
    let same : c.in_ok-kept.field-0 ≡ c.in_ok-name.name = search rules in
    c.requirement.ensures c.args.line.now
    (subst (λ (n : List ℕ). IsWalked c.args.line.now n (Keeps c.walk.new.line)) (sym same) c.in_ok-name.ensures.ok)
