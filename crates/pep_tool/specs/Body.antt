-- The text of a reply.
use Rattle.std.specs.Prelude.{ℕ, List, string_bytes}
use Rattle.pep_tool.specs.declared.program.body.Body as body
use Rattle.pep_tool.specs.declared.program.body.Body.TheVariants.{Text, Table}

abbrev pub body_text : body.Body → List ℕ
body_text (Text text) = string_bytes text
body_text (Table text) = text
