-- What is demanded of a package in all, as the entry of it.
use Rattle.std.specs.Prelude.{List, []}
use Rattle.pep_clause.specs.VersionSet.{Range}
use Rattle.demands.specs.Way.Others.{OtherParts}
use Rattle.demands.specs.Table.{EntryParts}

-- the entry of a name of which the versions in these ranges are demanded, and nothing else
abbrev pub ranges_entry : List Range → EntryParts
ranges_entry ranges = record { extras = []; urls = []; texts = []; versions = ranges }

-- what an entry demands besides versions
abbrev pub other_parts : EntryParts → OtherParts
other_parts e = record { extras = e.extras; urls = e.urls; texts = e.texts }
