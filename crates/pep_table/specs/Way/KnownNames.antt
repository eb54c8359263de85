-- Names that are remembered, as they are written, with the places of entries of them.
use Rattle.std.specs.Prelude.{ℕ, List, Option, Some, None, ⊤}
use Rattle.pep_marker.specs.Name.{normalized}
use Rattle.pep_table.specs.declared.gathered.KnownName.{KnownName}
use Rattle.pep_table.specs.Way.Gathered.{IsAt}

-- what a slot of the memory has: nothing, or a name that stands at its place
abbrev pub IsKnown : List (List ℕ) → Option KnownName → Type 0
IsKnown ns None = ⊤
IsKnown ns (Some k) = IsAt ns (normalized k.text.bytes) k.place
