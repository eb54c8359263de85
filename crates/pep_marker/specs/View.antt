-- What a contract sees of a marker.
use Rattle.std.specs.Prelude.{string_bytes}
use Rattle.pep_marker.specs.Marker as syntax
use Rattle.pep_marker.specs.Marker.{MarkerParts}
use Rattle.pep_marker.specs.declared.marker.Marker.{Marker}
use Rattle.pep_marker.specs.declared.marker.Operand.{Operand}
use Rattle.pep_marker.specs.declared.marker.Operand.TheVariants as side
use Rattle.pep_marker.specs.declared.marker.Operator.{Operator}
use Rattle.pep_marker.specs.declared.marker.Operator.TheVariants as sign
use Rattle.pep_marker.specs.declared.marker.Tree.{Tree, fold-Tree}
use Rattle.pep_marker.specs.declared.marker.Tree.TheOpen.{Tree-F}

abbrev pub operand_parts : Operand → syntax.Operand
operand_parts (side.Variable v) = syntax.variable v
operand_parts (side.Text t) = syntax.text (string_bytes t)

abbrev pub operator_parts : Operator → syntax.Operator
operator_parts (sign.Version o) = syntax.version_operator o
operator_parts sign.In = syntax.is_in
operator_parts sign.NotIn = syntax.is_not_in

-- one level, with the markers inside already seen so
abbrev pub tree_step : Tree-F MarkerParts → MarkerParts
tree_step (Tree-F.Comparison l o r) =
    syntax.compare (operand_parts l) (operator_parts o) (operand_parts r)
tree_step (Tree-F.And m n) = syntax.and m.value n.value
tree_step (Tree-F.Or m n) = syntax.or m.value n.value

abbrev pub tree_parts : Tree → MarkerParts
tree_parts t = fold-Tree MarkerParts tree_step t

abbrev pub marker_parts : Marker → MarkerParts
marker_parts m = tree_parts m.tree
