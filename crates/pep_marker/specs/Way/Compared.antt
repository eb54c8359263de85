-- The marker that a comparison is.
use Rattle.pep_marker.specs.Marker.{MarkerParts, compare}
use Rattle.pep_marker.specs.View.{operator_parts}
use Rattle.pep_marker.specs.Way.Token.{operand_of}
use Rattle.pep_marker.specs.declared.making.Comparison.{Comparison}

abbrev pub compared_parts : Comparison → MarkerParts
compared_parts c = compare (operand_of c.left) (operator_parts c.operator) (operand_of c.right)
