-- What is known of the text of a variable.
use Rattle.std.specs.Prelude.{ℕ, List, Ok, Option, Some, None}
use Rattle.pep_version.specs.Spelling.{Spells}
use Rattle.pep_version.specs.Version.{Version}
use Rattle.specifiers.specs.Clause.{Clause, ClauseOf}
use Rattle.specifiers.specs.declared.op.Op.TheVariants.{Equal}

-- the version that a text spells, and nothing where it spells none
abbrev pub IsVersionOf : List ℕ → Option Version → Type 0
IsVersionOf x None = (v : Version) → ¬ Spells x v
IsVersionOf x (Some v) = Spells x v

-- the clause of `==` and a text, and nothing where they make none
abbrev pub IsMatchingOf : List ℕ → Option Clause → Type 0
IsMatchingOf x None = (c : Clause) → ¬ ClauseOf Equal x (Ok c)
IsMatchingOf x (Some c) = ClauseOf Equal x (Ok c)
