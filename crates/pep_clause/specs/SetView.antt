-- What a contract sees of a set, which holds one range by itself or some in a list: the ranges.
use Rattle.std.specs.Prelude.{List, [], ◌∷◌}
use Rattle.pep_clause.specs.VersionSet.{Range}
use Rattle.pep_clause.specs.declared.ranges.Ranges.{Ranges}
use Rattle.pep_clause.specs.declared.ranges.Ranges.TheVariants.{Any, One}

abbrev pub ranges_of : Ranges → List Range
ranges_of (One r) = r ∷ []
ranges_of (Any list) = list.items
