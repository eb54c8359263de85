-- What a count of levels is to the definitions.
use Rattle.documents.specs.declared.nesting.LevelCount.{LevelCount}
use Rattle.documents.specs.Nesting.{Levels}

abbrev pub levels_of : LevelCount → Levels
levels_of count =
    record { here = count.here; base = count.base; outer = count.outer.items; is_value = count.is_value }
