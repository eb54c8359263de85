-- What a contract sees of a requirement.
use Rattle.std.specs.Prelude.{option_map}
use Rattle.pep_marker.specs.View.{marker_parts}
use Rattle.pep_require.specs.Requirement.{RequirementParts, TargetParts, bounds, direct}
use Rattle.pep_require.specs.declared.requirement.Requirement.{Requirement}
use Rattle.pep_require.specs.declared.requirement.Target.{Target}
use Rattle.pep_require.specs.declared.requirement.Target.TheVariants as target

abbrev pub target_parts : Target → TargetParts
target_parts (target.Bounds clauses) = bounds clauses.items
target_parts (target.Direct url) = direct url

abbrev pub requirement_parts : Requirement → RequirementParts
requirement_parts r = record {
  name = r.name;
  extras = r.extras.items;
  target = target_parts r.target;
  marker = option_map marker_parts r.marker;
}
