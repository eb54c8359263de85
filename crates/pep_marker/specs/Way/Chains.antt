-- The chains of a marker at the front of a list of tokens, read from left to right, with the
-- tokens that are left. This is the code's way: the grammar stands in `Marker`.
use Rattle.std.specs.Prelude.{◌≡◌, ℕ, suc, ◌<◌, ◌≤◌, ◌⊎◌, Bool, true, false, List, [], ◌∷◌, map}
use Rattle.std.specs.Prelude.{Option, Some, None}
use Rattle.pep_marker.specs.Marker.{Operand, Operator, MarkerParts, compare, and, or, comparisons}
use Rattle.pep_marker.specs.Marker.{Token, open_parenthesis, close_parenthesis, and_word, or_word}
use Rattle.pep_marker.specs.Marker.{operand, operator, AreTooMany}
use Rattle.pep_marker.specs.Way.Token.{token_of}
use Rattle.pep_marker.specs.declared.chains.Front.{Front}
use Rattle.pep_marker.specs.declared.making.Link.{Link}
use Rattle.pep_marker.specs.declared.making.Link.TheVariants.{And, Or}
use Rattle.pep_marker.specs.declared.fault.MarkerFault.{MarkerFault}
use Rattle.pep_marker.specs.declared.fault.MarkerFault.TheVariants.{BadMarker, TooDeep, NoMemory}

-- the word of a link
abbrev pub link_word : Link → Token
link_word And = and_word
link_word Or = or_word

-- the marker of two that it joins
abbrev pub joined : Link → MarkerParts → MarkerParts → MarkerParts
joined And m n = and m n
joined Or m n = or m n

mutual
  -- the item at the front of the tokens, and the tokens behind it
  pub data ItemFrom : ℕ → List Token → MarkerParts → List Token → Type 0 where
    comparison_from : {depth : ℕ} {l r : Operand} {o : Operator} {rest : List Token} →
        ItemFrom depth (operand l ∷ operator o ∷ operand r ∷ rest) (compare l o r) rest
    parentheses_from : {depth : ℕ} {ts rest : List Token} {m : MarkerParts} →
        ChainFrom Or depth ts m (close_parenthesis ∷ rest) →
        ItemFrom (suc depth) (open_parenthesis ∷ ts) m rest

  -- what a link joins: items under `and`, and and-chains under `or`
  pub data PartFrom : Link → ℕ → List Token → MarkerParts → List Token → Type 0 where
    item_part : {depth : ℕ} {ts rest : List Token} {m : MarkerParts} → ItemFrom depth ts m rest →
        PartFrom And depth ts m rest
    chain_part : {depth : ℕ} {ts rest : List Token} {m : MarkerParts} →
        ChainFrom And depth ts m rest → PartFrom Or depth ts m rest

  -- a chain at the front: its first part, and what goes on behind it
  pub data ChainFrom : Link → ℕ → List Token → MarkerParts → List Token → Type 0 where
    parts_from : {link : Link} {depth : ℕ} {ts us rest : List Token} {m n : MarkerParts} →
        PartFrom link depth ts n us → RestFrom link depth n us m rest →
        ChainFrom link depth ts m rest

  -- the chain goes on with these tokens, from the marker so far to the whole one
  pub data RestFrom : Link → ℕ → MarkerParts → List Token → MarkerParts → List Token → Type 0 where
    rest_end : {link : Link} {depth : ℕ} {m : MarkerParts} {rest : List Token} →
        RestFrom link depth m rest m rest
    rest_more : {link : Link} {depth : ℕ} {ts us vs rest : List Token} {k m n : MarkerParts} →
        vs ≡ link_word link ∷ ts → PartFrom link depth ts n us →
        RestFrom link depth (joined link m n) us k rest → RestFrom link depth m vs k rest

-- an and-chain doesn't go on with these tokens
abbrev pub ends_and : List Token → Bool
ends_and (and_word ∷ ts) = false
ends_and ts = true

-- an or-chain doesn't go on with these tokens
abbrev pub ends_or : List Token → Bool
ends_or (and_word ∷ ts) = false
ends_or (or_word ∷ ts) = false
ends_or ts = true

-- a chain doesn't go on with these tokens
abbrev pub ends : Link → List Token → Bool
ends And ts = ends_and ts
ends Or ts = ends_or ts

-- a part of it doesn't go on with these tokens
abbrev pub part_ends : Link → List Token → Bool
part_ends And ts = true
part_ends Or ts = ends_and ts

-- the tokens begin with `)`
abbrev pub is_closed : List Token → Bool
is_closed (close_parenthesis ∷ ts) = true
is_closed ts = false

-- the operator at the front of the tokens
abbrev pub first_operator : List Token → Option Operator
first_operator (operator o ∷ ts) = Some o
first_operator ts = None

-- the operand at the front of the tokens
abbrev pub first_operand : List Token → Option Operand
first_operand (operand o ∷ ts) = Some o
first_operand ts = None

-- a part, and a chain, at the front, read to its end
abbrev pub PartTo : Link → ℕ → List Token → MarkerParts → List Token → Type 0
PartTo link depth ts m rest = PartFrom link depth ts m rest × (part_ends link rest ≡ true)

abbrev pub ChainTo : Link → ℕ → List Token → MarkerParts → List Token → Type 0
ChainTo link depth ts m rest = ChainFrom link depth ts m rest × (ends link rest ≡ true)

-- A marker is read up to this rest of the tokens. Something is made that means it, and it has so many
-- comparisons, for which there is room.
pub record IsFront (read : MarkerParts → List Token → Type 0) (means : MarkerParts → Type 0)
    (room count : ℕ) (rest : List Token) : Type 0 where
  pub marker : MarkerParts
  pub stands : read marker rest
  pub meant : means marker
  pub counted : count ≡ comparisons marker
  pub few : count ≤ room

-- .. as the code has it
abbrev pub IsRead : {P : Type 0} → (P → MarkerParts → Type 0) →
    (MarkerParts → List Token → Type 0) → ℕ → Front P → Type 0
IsRead means read room f =
    IsFront read (means f.part) room f.comparisons (map token_of f.rest.now)

-- what is meant of two markers is meant of the one that joins them
abbrev pub Joins : Link → (MarkerParts → Type 0) → (MarkerParts → Type 0) →
    (MarkerParts → Type 0) → Type 0
Joins link left right both = (m n : MarkerParts) → left m → right n → both (joined link m n)

-- no marker that is read has as few comparisons as there is room for
abbrev pub NoFront : (MarkerParts → List Token → Type 0) → ℕ → Type 0
NoFront read room = (m : MarkerParts) (rest : List Token) → read m rest → room < comparisons m

-- The refusal is lack of memory, or one of the grammar, and then this holds; it is too deep only where
-- the tokens have more `(` than may be opened, or more operators than there is room for.
abbrev pub Refuses : Type 0 → ℕ → ℕ → List Token → MarkerFault → Type 0
Refuses why depth room ts fault =
    (fault ≡ NoMemory)
    ⊎ (((fault ≡ BadMarker) ⊎ ((fault ≡ TooDeep) × AreTooMany depth room ts)) × why)

-- no marker is read at the front of the tokens
abbrev pub RefusesFront : (ℕ → List Token → MarkerParts → List Token → Type 0) → ℕ → ℕ →
    List Token → MarkerFault → Type 0
RefusesFront read depth room ts = Refuses (NoFront (read depth ts) room) depth room ts

-- ---- all tokens

-- Something is made that means the marker that the tokens are, which is within the limits.
pub record IsWhole (ts : List Token) (means : MarkerParts → Type 0) : Type 0 where
  pub marker : MarkerParts
  pub chain : ChainFrom Or 64 ts marker []
  pub meant : means marker
  pub few : comparisons marker ≤ 1024

-- they are no marker within the limits
abbrev pub NoWhole : List Token → Type 0
NoWhole ts = (m : MarkerParts) → ChainFrom Or 64 ts m [] → 1024 < comparisons m
