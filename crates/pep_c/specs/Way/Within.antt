-- The first text that some clauses demand.
use Rattle.std.specs.Prelude.{ℕ, List, [], ◌∷◌, Option, None}
use Rattle.std.specs.Option.{option_or}
use Rattle.specifiers.specs.Clause.{Clause, demanded_text}

-- the text that the first clause with `===` demands, if there is one
abbrev pub first_demanded : List Clause → Option (List ℕ)
first_demanded [] = None
first_demanded (c ∷ cs) = option_or (demanded_text c) (first_demanded cs)
