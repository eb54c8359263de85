-- What lies between two packed cuts, or outside of them.
use Rattle.std.specs.Prelude.{List}
use Rattle.pep_clause.specs.Ends.{between}
use Rattle.pep_clause.specs.VersionSet.{Range}
use Rattle.packed_cuts.specs.declared.packed_set.PackedSet.{PackedSet}

abbrev pub ranges_in : PackedSet → List Range
ranges_in s = between s.outside s.range.low s.range.high
