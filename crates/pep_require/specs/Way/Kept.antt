-- What is kept of a line whose parts are kept.
use Rattle.std.specs.Prelude.{◌≡◌, option_map}
use Rattle.pep_marker.specs.View.{marker_parts}
use Rattle.pep_require.specs.Requirement.{RequirementParts}
use Rattle.pep_require.specs.View.{target_parts}
use Rattle.pep_require.specs.declared.keeping.Kept.{Kept}

-- all parts but the name
pub record Keeps (kept : Kept) (p : RequirementParts) : Type 0 where
  pub extras : p.extras ≡ kept.extras.items
  pub target : p.target ≡ target_parts kept.target
  pub marker : p.marker ≡ option_map marker_parts kept.marker
