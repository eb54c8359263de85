-- What is kept of the versions of a package beside two packed cuts. No meaning rests on this.
use Rattle.std.specs.Prelude.{List, Option, Some, None}
use Rattle.pep_clause.specs.Way.Joined.{joined}
use Rattle.pep_clause.specs.VersionSet.{IsNormal, Range, all_versions}
use Rattle.demands.specs.declared.kept_versions.Beside.{Beside}
use Rattle.demands.specs.Way.PartialJoins.{AreNormal, joined_sets}

-- every version, where it is nothing; else what is left over, in all the sets
abbrev pub beside_versions : Option Beside → List Range
beside_versions None = all_versions
beside_versions (Some b) = joined b.left_out (joined_sets b.sets.items)

-- both are normal lists
abbrev pub AreNormalParts : Option Beside → Type 0
AreNormalParts None = Unit {0}
AreNormalParts (Some b) = IsNormal b.left_out × AreNormal b.sets.items
