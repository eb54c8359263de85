-- The text of a table that is yet to be written.
use Rattle.std.specs.Prelude.{ℕ, List, map}
use Rattle.std.specs.List.{concat, flat_map}
use Rattle.std.specs.Prelude.{Vec}
use Rattle.std.specs.declared.alloc.Global.{Global}
use Rattle.pep_table.specs.TableText.{entry_text}
use Rattle.pep_table.specs.declared.printout.Row.{Row}

-- the rows of blocks
abbrev pub in_blocks : List (Vec Row Global) → List Row
in_blocks blocks = flat_map (λ b. b.items) blocks

-- the lines of a row, and of rows
abbrev pub row_text : Row → List ℕ
row_text r = entry_text r.name r.verdict r.finished

abbrev pub rows_text : List Row → List ℕ
rows_text rows = concat (map row_text rows)
