use Rattle.std.proofs.Common.{◌∙◌, sym}
use Rattle.std.specs.Prelude.{option_map}
use Rattle.demands.specs.Way.KeptVersions.{beside_versions}
use Rattle.demands.specs.Way.PartialJoins.{kept_versions}
use Rattle.demands.proofs.KeptVersions.{kept-bare}
use Rattle.demands.proofs.kept_versions.KeptVersions.plain_range.Goals as goal

pub returns-in-None : goal.returns-in-None
returns-in-None c =
    let b = c.self.inside.range in
    kept-bare b.low b.high c.self.invariant.0 c.self.invariant.1
    ∙ (λ j. kept_versions b.low b.high (beside_versions (option_map (λ b. b.value) (sym c.in-None.is j))))
    ∙ c.self.view_is
