-- The tokens that code cuts from a marker's text: what each one is, and where it ends.
use Rattle.std.specs.Prelude.{◌≡◌, ℕ, ◌-◌, ◌<◌, List, drop, Option, Some, option_map}
use Rattle.std.specs.Str.{IsCharBoundary}
use Rattle.pep_marker.specs.Marker as syntax
use Rattle.pep_marker.specs.Way.TokenReading.{next_token}
use Rattle.pep_marker.specs.View.{operator_parts}
use Rattle.pep_marker.specs.declared.token.Token.{Token}
use Rattle.pep_marker.specs.declared.token.Token.TheVariants as kind
use Rattle.pep_marker.specs.declared.token.Side.{Side}
use Rattle.pep_marker.specs.declared.token.Side.TheVariants as side

abbrev pub operand_of : Side → syntax.Operand
operand_of (side.Variable v) = syntax.variable v
operand_of (side.Text t) = syntax.text t.now

abbrev pub token_of : Token → syntax.Token
token_of kind.Open = syntax.open_parenthesis
token_of kind.Close = syntax.close_parenthesis
token_of kind.And = syntax.and_word
token_of kind.Or = syntax.or_word
token_of (kind.Operand o) = syntax.operand (operand_of o)
token_of (kind.Operator o) = syntax.operator (operator_parts o)

-- what stands in front of a text, and the number of its bytes
abbrev pub found_of : Option (Token × ℕ) → Option (syntax.Token × ℕ)
found_of found = option_map (λ p. (token_of p.0, p.1)) found

-- the token is the one that is found at this place of the text, and this is the place behind it
pub record IsTokenAt (x : List ℕ) (start : ℕ) (t : syntax.Token) (behind : ℕ) : Type 0 where
  pub longer : start < behind
  pub boundary : IsCharBoundary x behind
  pub found : next_token (drop start x) ≡ Some (t, behind - start)
