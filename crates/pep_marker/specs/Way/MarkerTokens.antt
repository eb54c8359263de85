-- The tokens that the text of a marker has, and the markers that have a text.
use Rattle.std.specs.Prelude.{ℕ, Bool, true, false, not, IsTrue, List, [], ◌∷◌, ◌++◌, ⊤}
use Rattle.pep_marker.specs.Marker.{Token, open_parenthesis, close_parenthesis, and_word, or_word}
use Rattle.pep_marker.specs.Marker.{operand, operator, Operand, variable, text, is_quotable}
use Rattle.pep_marker.specs.Marker.{MarkerParts, compare, and, or}
use Rattle.pep_marker.specs.MarkerText.{is_comparison, is_or}

abbrev pub closed_tokens : Bool → List Token → List Token
closed_tokens true ts = open_parenthesis ∷ ts ++ close_parenthesis ∷ []
closed_tokens false ts = ts

-- as `marker_text` writes it
abbrev pub marker_tokens : MarkerParts → List Token
marker_tokens (compare l o r) = operand l ∷ operator o ∷ operand r ∷ []
marker_tokens (and m n) =
    closed_tokens (is_or m) (marker_tokens m)
    ++ and_word ∷ closed_tokens (not (is_comparison n)) (marker_tokens n)
marker_tokens (or m n) =
    marker_tokens m ++ or_word ∷ closed_tokens (is_or n) (marker_tokens n)

-- the operand can be written: a text can stand in one of the two quotes
abbrev pub IsQuotableOperand : Operand → Type 0
IsQuotableOperand (variable v) = ⊤
IsQuotableOperand (text t) = (quote : ℕ) × IsTrue (is_quotable quote t)

abbrev pub IsQuotable : MarkerParts → Type 0
IsQuotable (compare l o r) = IsQuotableOperand l × IsQuotableOperand r
IsQuotable (and m n) = IsQuotable m × IsQuotable n
IsQuotable (or m n) = IsQuotable m × IsQuotable n

-- each operand among the tokens can be written
abbrev pub AreQuotable : List Token → Type 0
AreQuotable [] = ⊤
AreQuotable (operand l ∷ ts) = IsQuotableOperand l × AreQuotable ts
AreQuotable (t ∷ ts) = AreQuotable ts
