-- What a table has of one name.
use Rattle.std.specs.Prelude.{ℕ, List, [], ◌∷◌, Option, Some, None}
use Rattle.demands.specs.Table.{EntryParts, TableParts, entry_at}

-- the table of one entry with this name, and of none where there is none
abbrev pub entry_alone : List ℕ → Option EntryParts → TableParts
entry_alone name None = []
entry_alone name (Some e) = (name, e) ∷ []

-- what a table has of the wanted name, where one is wanted, else all of it
abbrev pub wanted_part : Option (List ℕ) → TableParts → TableParts
wanted_part None t = t
wanted_part (Some name) t = entry_alone name (entry_at t name)
