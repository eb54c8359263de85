-- Markers and their grammar: PyPA "Dependency specifiers", "Grammar" (PEP 508).
use Rattle.std.specs.Prelude.{◌≡◌, ℕ, suc, ◌+◌, ◌≤◌, ◌<◌, Bool, true, not, ◌&&◌, ◌||◌, ◌==◌}
use Rattle.std.specs.Prelude.{IsTrue, List, [], ◌∷◌, ◌++◌, length, codes, ◌⊎◌, ⊤}
use Rattle.std.specs.Char.{is_ascii_alphanumeric}
use Rattle.std.specs.List.{list_all}
use Rattle.specifiers.specs.Clause.{operator_text}
use Rattle.specifiers.specs.declared.op.Op.{Op}
use Rattle.specifiers.specs.declared.op.Op.TheVariants.{Equal, Less, More}
use Rattle.pep_marker.specs.declared.environment.Variable.{Variable}
use Rattle.pep_marker.specs.Environment.{variable_name}
use Rattle.pep_marker.specs.declared.fault.MarkerFault.{MarkerFault}
use Rattle.pep_marker.specs.declared.fault.MarkerFault.TheVariants.{BadMarker, TooDeep}
use Rattle.texts.specs.Runs.{IsBlank, begins}

-- ---- what a marker is

pub data Operand : Type 0 where
  variable : Variable → Operand
  text : List ℕ → Operand

-- an operator of version clauses, `in`, or `not in`
pub data Operator : Type 0 where
  version_operator : Op → Operator
  is_in : Operator
  is_not_in : Operator

-- a comparison, or two markers under `and` or `or`
pub data MarkerParts : Type 0 where
  compare : Operand → Operator → Operand → MarkerParts
  and : MarkerParts → MarkerParts → MarkerParts
  or : MarkerParts → MarkerParts → MarkerParts

abbrev pub comparisons : MarkerParts → ℕ
comparisons (compare l o r) = 1
comparisons (and m n) = comparisons m + comparisons n
comparisons (or m n) = comparisons m + comparisons n

-- ---- tokens, with white space between them: spaces and tabs

pub data Token : Type 0 where
  open_parenthesis : Token
  close_parenthesis : Token
  and_word : Token
  or_word : Token
  operand : Operand → Token
  operator : Operator → Token

-- `"` and `'`
abbrev pub is_quote : ℕ → Bool
is_quote b = b == 34 || b == 39

-- a text in quotes: any characters but the quote, line feed and carriage return
abbrev pub is_quotable : ℕ → List ℕ → Bool
is_quotable quote x = is_quote quote && list_all (λ b. not (b == quote || b == 10 || b == 13)) x

-- the token is written so
abbrev pub IsToken : Token → List ℕ → Type 0
IsToken open_parenthesis x = x ≡ codes "("
IsToken close_parenthesis x = x ≡ codes ")"
IsToken and_word x = x ≡ codes "and"
IsToken or_word x = x ≡ codes "or"
IsToken (operand (variable v)) x = x ≡ variable_name v
IsToken (operand (text t)) x =
    (quote : ℕ) × IsTrue (is_quotable quote t) × (x ≡ quote ∷ t ++ quote ∷ [])
IsToken (operator (version_operator o)) x = x ≡ operator_text o
IsToken (operator is_in) x = x ≡ codes "in"
IsToken (operator is_not_in) x =
    (space : List ℕ) × IsBlank space × (1 ≤ length space) × (x ≡ codes "not" ++ space ++ codes "in")

-- a word is the longest run of letters, digits, `_` and `.`
abbrev pub is_word_byte : ℕ → Bool
is_word_byte b = is_ascii_alphanumeric b || b == 95 || b == 46

-- a longer word, or a longer operator, doesn't begin where the token begins
abbrev pub ends_before : Token → List ℕ → Bool
ends_before open_parenthesis rest = true
ends_before close_parenthesis rest = true
ends_before (operand (text t)) rest = true
ends_before (operator (version_operator Equal)) rest = not (begins (λ b. b == 61) rest)
ends_before (operator (version_operator Less)) rest = not (begins (λ b. b == 61) rest)
ends_before (operator (version_operator More)) rest = not (begins (λ b. b == 61) rest)
ends_before (operator (version_operator o)) rest = true
ends_before word rest = not (begins is_word_byte rest)

-- the text is these tokens, with white space before, between and behind them
abbrev pub HasTokens : List ℕ → List Token → Type 0
HasTokens x [] = IsBlank x
HasTokens x (t ∷ ts) = (space written rest : List ℕ)
    × (x ≡ space ++ written ++ rest) × IsBlank space × IsToken t written
    × IsTrue (ends_before t rest) × HasTokens rest ts

-- ---- the grammar

-- `or` joins and-chains, `and` joins items, and both group to the left. An item is a comparison, or
-- an or-chain in parentheses. The number is how many parentheses may be open at once.
mutual
  pub data IsOrChain : ℕ → List Token → MarkerParts → Type 0 where
    one_chain : {depth : ℕ} {ts : List Token} {m : MarkerParts} → IsAndChain depth ts m →
        IsOrChain depth ts m
    or_chain : {depth : ℕ} {m n : MarkerParts} (ts us : List Token) →
        IsOrChain depth ts m → IsAndChain depth us n → IsOrChain depth (ts ++ or_word ∷ us) (or m n)

  pub data IsAndChain : ℕ → List Token → MarkerParts → Type 0 where
    one_item : {depth : ℕ} {ts : List Token} {m : MarkerParts} → IsItem depth ts m →
        IsAndChain depth ts m
    and_chain : {depth : ℕ} {m n : MarkerParts} (ts us : List Token) →
        IsAndChain depth ts m → IsItem depth us n → IsAndChain depth (ts ++ and_word ∷ us) (and m n)

  pub data IsItem : ℕ → List Token → MarkerParts → Type 0 where
    comparison : (depth : ℕ) (l r : Operand) (o : Operator) →
        IsItem depth (operand l ∷ operator o ∷ operand r ∷ []) (compare l o r)
    parentheses : {depth : ℕ} {m : MarkerParts} (ts : List Token) →
        IsOrChain depth ts m →
        IsItem (suc depth) (open_parenthesis ∷ ts ++ close_parenthesis ∷ []) m

-- The text is read as the marker: at most 64 parentheses are open at once, and there are at most
-- 1,024 comparisons.
pub record IsMarker (x : List ℕ) (m : MarkerParts) : Type 0 where
  pub tokens : List Token
  pub written : HasTokens x tokens
  pub grammar : IsOrChain 64 tokens m
  pub few : comparisons m ≤ 1024

-- the text is read as no marker
abbrev pub NoMarker : List ℕ → Type 0
NoMarker x = (m : MarkerParts) → ¬ IsMarker x m

-- ---- what is said of a text that is no marker

-- how many `(` are among the tokens
abbrev pub opened : List Token → ℕ
opened [] = 0
opened (open_parenthesis ∷ ts) = suc (opened ts)
opened (t ∷ ts) = opened ts

-- how many operators
abbrev pub operators : List Token → ℕ
operators [] = 0
operators (operator o ∷ ts) = suc (operators ts)
operators (t ∷ ts) = operators ts

-- the tokens have more `(` than may be open, or more operators than there may be comparisons
abbrev pub AreTooMany : ℕ → ℕ → List Token → Type 0
AreTooMany depth room ts = (depth < opened ts) ⊎ (room < operators ts)

-- the text begins with these tokens, with white space before and between them
abbrev pub BeginsWith : List ℕ → List Token → Type 0
BeginsWith x [] = ⊤
BeginsWith x (t ∷ ts) = (space written rest : List ℕ)
    × (x ≡ space ++ written ++ rest) × IsBlank space × IsToken t written
    × IsTrue (ends_before t rest) × BeginsWith rest ts

-- the tokens that the text begins with have more than 64 `(`, or more than 1,024 operators
abbrev pub IsOverLimits : List ℕ → Type 0
IsOverLimits x = (ts : List Token) × BeginsWith x ts × AreTooMany 64 1024 ts

-- the text is no marker, and is refused with this fault: as too deep only where it is over the limits
abbrev pub IsNoMarker : List ℕ → MarkerFault → Type 0
IsNoMarker x fault =
    ((fault ≡ BadMarker) ⊎ ((fault ≡ TooDeep) × IsOverLimits x)) × NoMarker x
