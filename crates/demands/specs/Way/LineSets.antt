-- THE CODE'S WAY, and no part of any meaning: the versions that the clauses of a line admit.
use Rattle.std.specs.Prelude.{List, ◌++◌, All, IsTrue, map}
use Rattle.specifiers.specs.Clause.{is_demanded_text}
use Rattle.pep_clause.specs.OperatorTable.{outside}
use Rattle.pep_clause.specs.VersionSet.{Range}
use Rattle.pep_marker.specs.Name.{IsNormalName}
use Rattle.packed_cuts.specs.declared.packed_range.PackedRange.{PackedRange}
use Rattle.demands.specs.Way.Others.{OtherParts}
use Rattle.demands.specs.Way.PartialJoins.{AreKept, AreNormal, joined_sets, kept_versions}
use Rattle.demands.specs.Table.{is_url_text}

-- the versions that two packed cuts leave, which lie outside of them
abbrev pub left_by : PackedRange → List Range
left_by b = outside b.low b.high

-- the versions outside each pair of packed cuts, and the sets
abbrev pub line_sets : List PackedRange → List (List Range) → List (List Range)
line_sets left_out sets = map left_by left_out ++ sets

-- the versions that lie between two packed cuts, outside each of these pairs, and in the sets
abbrev pub line_versions : PackedRange → List PackedRange → List (List Range) → List Range
line_versions b left_out sets = kept_versions b.low b.high (joined_sets (line_sets left_out sets))

-- each part is in its one spelling
pub record AreLineSets (b : PackedRange) (left_out : List PackedRange) (sets : List (List Range)) : Type 0 where
  pub kept : AreKept b.low b.high (joined_sets (line_sets left_out sets))
  pub normal : AreNormal (line_sets left_out sets)

-- each text may stand in a table
pub record AreValidOthers (o : OtherParts) : Type 0 where
  pub extras : All IsNormalName o.extras
  pub urls : All (λ u. IsTrue (is_url_text u)) o.urls
  pub texts : All (λ t. IsTrue (is_demanded_text t)) o.texts
