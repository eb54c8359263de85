use Rattle.std.proofs.Common.{rules, ℕ, List, sym, subst}
use Rattle.std.specs.Prelude.{Contains, ◌↔◌}
use Rattle.pep_require.specs.Requirement.{IsAscending}
use Rattle.pep_require.proofs.ExtrasLoops.{ascending_kept, same_kept}
use Rattle.pep_require.proofs.extras.sort_all.Goals as goal

pub returns-clause-ascending : goal.returns-clause-ascending
returns-clause-ascending c =
    subst IsAscending (sym c.shrink_to_fit.ensures.items) (search (rules, ascending_kept))

pub returns-clause-same : goal.returns-clause-same
returns-clause-same c =
    subst (λ names. (n : List ℕ) → Contains names n ↔ Contains c.args.names.now.items n)
    (sym c.shrink_to_fit.ensures.items) (search (rules, same_kept))
