-- The text of a name, wherever it lies.
use Rattle.std.specs.Prelude.{ℕ, List, string_bytes}
use Rattle.pep_marker.specs.declared.name_text.NameText.{NameText}
use Rattle.pep_marker.specs.declared.name_text.NameText.TheVariants.{Short, Long}

-- in the value or not
abbrev pub name_bytes : NameText → List ℕ
name_bytes (Short text) = text.bytes
name_bytes (Long text) = string_bytes text
