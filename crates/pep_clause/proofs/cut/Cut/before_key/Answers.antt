use Rattle.std.proofs.Common.{◌≡◌, refl, subst}
use Rattle.std.specs.Prelude.{IfOk}
use Rattle.pep_clause.specs.Cut.{before}
use Rattle.pep_clause.proofs.CutsRead.{cut_at-is, reads_back}
use Rattle.pep_clause.proofs.cut.Cut.before_key.Goals as goal

pub large-requires : goal.large-requires
large-requires c =
    reads_back c.into_bytes.result.items (before c.args.key)
    (c.requires.version, c.requires.own_place) refl c.into_bytes.ensures.bytes

pub returns-clause-place : goal.returns-clause-place
returns-clause-place c =
    subst (λ x. IfOk c.large.result (λ k. k ≡ x))
    (cut_at-is c.into_bytes.result.items (before c.args.key)
    (c.requires.version, c.requires.own_place) refl c.into_bytes.ensures.bytes) c.large.ensures.same
