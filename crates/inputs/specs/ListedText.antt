-- The text that `lines` prints.
use Rattle.std.specs.Prelude.{ℕ, List, [], ◌∷◌, ◌++◌, codes}
use Rattle.pep_require.specs.Requirement.{RequirementParts}
use Rattle.pep_require.specs.RequirementText.{requirement_text}

-- each requirement's text and a line feed
abbrev pub listed_text : List RequirementParts → List ℕ
listed_text [] = []
listed_text (r ∷ rs) = requirement_text r ++ codes "\n" ++ listed_text rs
