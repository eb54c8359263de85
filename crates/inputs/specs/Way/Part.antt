-- Bytes of a list, as the code hands them on.
use Rattle.std.specs.Prelude.{ℕ, List}
use Rattle.std.specs.Borrow.{Bor}
use Rattle.inputs.specs.declared.lines.Part.{Part}
use Rattle.inputs.specs.declared.lines.Part.TheVariants.{Text, Bytes}

abbrev pub lent : Part → Bor (List ℕ)
lent (Text text) = text
lent (Bytes bytes) = bytes

abbrev pub part_bytes : Part → List ℕ
part_bytes part = (lent part).now
