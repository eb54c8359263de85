-- Sets that have a version.
use Rattle.std.specs.Prelude.{◌≢◌, List, []}
use Rattle.pep_version.specs.Version.{IsVersion, Version}
use Rattle.pep_clause.specs.VersionSet.{In, Range}

-- a set with a range has a version
abbrev pub HasVersionUnlessEmpty : List Range → Type 0
HasVersionUnlessEmpty ranges = ranges ≢ [] → (v : Version) × IsVersion v × In ranges v
