-- Lines and the text that they make.
use Rattle.std.specs.Prelude.{◌≡◌, ℕ, ◌==◌, Bool, true, not, List, [], ◌∷◌, ◌++◌, map}
use Rattle.std.specs.List.{concat, list_all}

-- a line ends in a line feed
abbrev pub line : List ℕ → List ℕ
line x = x ++ 10 ∷ []

-- the text that has these lines
abbrev pub written : List (List ℕ) → List ℕ
written ls = concat (map line ls)

abbrev pub is_not_feed : ℕ → Bool
is_not_feed b = not (b == 10)

-- no line feed stands in the text, so that it may be a line
abbrev pub HasNoFeed : List ℕ → Type 0
HasNoFeed x = list_all is_not_feed x ≡ true
