-- The line that a requirement is written as: PyPA "Dependency specifiers", "Grammar" (PEP 508).
use Rattle.std.specs.Prelude.{◌≡◌, ℕ, ◌≤◌, Bool, ◌&&◌, ◌||◌, ◌==◌, nat_lt, nat_le, IsTrue, List, []}
use Rattle.std.specs.Prelude.{◌∷◌, ◌++◌, length, codes, Contains, ◌↔◌, Option, Some, None, Ok}
use Rattle.std.specs.List.{AllZip, join_with_byte, list_all}
use Rattle.url.specs.Parser.{parse_url}
use Rattle.url.specs.Parts.{serialize}
use Rattle.url.specs.Parts as url
use Rattle.specifiers.specs.Clause.{Clause, ReadsClause, operator_text}
use Rattle.texts.specs.Limits.{line_limit}
use Rattle.texts.specs.Bytes.{is_clause_byte}
use Rattle.specifiers.specs.declared.op.Op.{Op}
use Rattle.pep_marker.specs.Marker.{MarkerParts, IsMarker}
use Rattle.texts.specs.Runs.{IsBlank, begins}
use Rattle.texts.specs.Bytes.{is_blank_byte}
use Rattle.pep_marker.specs.Name.{name_of}
use Rattle.pep_require.specs.Requirement.{RequirementParts, TargetParts, bounds, direct, UrlParts}
use Rattle.pep_require.specs.Requirement.{IsAscending}

-- ---- extras

-- a name, with white space round it
pub record IsExtra (piece n : List ℕ) : Type 0 where
  pub before : List ℕ
  pub written : List ℕ
  pub after : List ℕ
  pub whole : piece ≡ before ++ written ++ after
  pub blanks : IsBlank before × IsBlank after
  pub name : name_of written ≡ Some n

-- the text names these extras, in this order: nothing, or names joined by `,` in `[` `]`
pub data NamesExtras : List ℕ → List (List ℕ) → Type 0 where
  none : NamesExtras [] []
  empty : (space : List ℕ) → IsBlank space → NamesExtras (codes "[" ++ space ++ codes "]") []
  listed : {n : List ℕ} {ns : List (List ℕ)} (piece : List ℕ) (pieces : List (List ℕ)) →
      IsExtra piece n → AllZip IsExtra pieces ns →
      NamesExtras (codes "[" ++ join_with_byte 44 (piece ∷ pieces) ++ codes "]") (n ∷ ns)

-- the extras of the requirement are the set of the extras that the text names
pub record ReadsExtras (x : List ℕ) (extras : List (List ℕ)) : Type 0 where
  pub named : List (List ℕ)
  pub written : NamesExtras x named
  pub ascending : IsAscending extras
  pub same : (n : List ℕ) → Contains extras n ↔ Contains named n

-- ---- the target

-- an operator, white space, and the longest run of characters that a clause may hold, with white
-- space round it
pub record IsBound (piece : List ℕ) (c : Clause) : Type 0 where
  pub before : List ℕ
  pub operator : Op
  pub between : List ℕ
  pub run : List ℕ
  pub after : List ℕ
  pub whole : piece ≡ before ++ operator_text operator ++ between ++ run ++ after
  pub blanks : IsBlank before × IsBlank between × IsBlank after
  pub bytes : IsTrue (list_all is_clause_byte run)
  pub clause : ReadsClause (operator_text operator ++ run) (Ok c)

-- a `,` after the last clause is dropped
pub data IsLastComma : List ℕ → Type 0 where
  no_comma : IsLastComma []
  comma : (space : List ℕ) → IsBlank space → IsLastComma (codes "," ++ space)

-- one clause or more, joined by `,`
pub record ReadsBounds (x : List ℕ) (cs : List Clause) : Type 0 where
  pub pieces : List (List ℕ)
  pub last : List ℕ
  pub some : 1 ≤ length pieces
  pub whole : x ≡ join_with_byte 44 pieces ++ last
  pub comma : IsLastComma last
  pub bounds : AllZip IsBound pieces cs

-- a byte that a URL's printed text may hold: 21 to 7E (hex)
abbrev pub is_url_byte : ℕ → Bool
is_url_byte b = nat_le 33 b && nat_le b 126

-- a run with no white space and no character U+0000 to U+001F that is a URL, by the crate `url`
pub record ReadsUrl (written : List ℕ) (u : UrlParts) : Type 0 where
  pub bytes : IsTrue (list_all (λ b. nat_lt 32 b) written)
  pub parts : url.Parts
  pub parsed : parse_url None written ≡ Ok parts
  pub kept : u ≡ record { written = written; text = serialize parts }
  pub printable : IsTrue (list_all is_url_byte (serialize parts))

-- The text is the target, and this stands behind it. A URL goes on to the next white space.
pub data ReadsTarget : List ℕ → List ℕ → TargetParts → Type 0 where
  anything : {rest : List ℕ} → ReadsTarget [] rest (bounds [])
  bare : {x rest : List ℕ} {cs : List Clause} → ReadsBounds x cs → ReadsTarget x rest (bounds cs)
  parenthesized : {rest : List ℕ} {cs : List Clause} (x : List ℕ) →
      ReadsBounds x cs → ReadsTarget (codes "(" ++ x ++ codes ")") rest (bounds cs)
  at_url : {rest : List ℕ} {u : UrlParts} (space written : List ℕ) →
      IsBlank space → ReadsUrl written u → IsTrue (length rest == 0 || begins is_blank_byte rest) →
      ReadsTarget (codes "@" ++ space ++ written) rest (direct u)

-- ---- the marker

-- nothing, or `;` and a marker
pub data ReadsMarker : List ℕ → Option MarkerParts → Type 0 where
  always : ReadsMarker [] None
  when : {m : MarkerParts} (x : List ℕ) → IsMarker x m → ReadsMarker (codes ";" ++ x) (Some m)

-- ---- the line

-- white space before, between and behind the four parts of a line
pub record Spaces : Type 0 where
  pub first : List ℕ
  pub second : List ℕ
  pub third : List ℕ
  pub fourth : List ℕ
  pub fifth : List ℕ
  pub blank : IsBlank first × IsBlank second × IsBlank third × IsBlank fourth × IsBlank fifth

-- The line is read as the requirement: a name, extras, a target and a marker, with white space
-- between them.
pub record Reads (x : List ℕ) (r : RequirementParts) : Type 0 where
  pub fits : length x ≤ line_limit
  -- the pieces of the line
  pub spaces : Spaces
  pub name : List ℕ
  pub extras : List ℕ
  pub target : List ℕ
  pub marker : List ℕ
  pub whole : x ≡ spaces.first ++ name ++ spaces.second ++ extras ++ spaces.third ++ target
      ++ spaces.fourth ++ marker ++ spaces.fifth
  -- what they say
  pub reads_name : name_of name ≡ Some r.name
  pub reads_extras : ReadsExtras extras r.extras
  pub reads_target : ReadsTarget target (spaces.fourth ++ marker ++ spaces.fifth) r.target
  pub reads_marker : ReadsMarker marker r.marker
