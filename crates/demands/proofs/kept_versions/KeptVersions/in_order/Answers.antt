use Rattle.std.proofs.Common.{subst}
use Rattle.std.specs.Prelude.{option_map}
use Rattle.pep_clause.specs.VersionSet.{IsNormal}
use Rattle.demands.proofs.KeptVersions.{kept-normal, kept-parts}
use Rattle.demands.proofs.kept_versions.KeptVersions.in_order.Goals as goal

pub returns : goal.returns
returns c =
    let i = c.self.inside in
    let kept = c.self.invariant in
    subst IsNormal c.self.view_is (kept-normal i.range.low i.range.high _ (kept-parts i.range.low i.range.high
    (option_map (λ b. b.value) i.beside) kept.0 kept.1 kept.2))
