-- The shards of a list: each line of a requirement is in the shard of its name.
use Rattle.std.specs.Prelude.{◌≡◌, ℕ, ◌+◌, ◌*◌, ◌%◌, ◌^◌, ◌≤◌, ◌==◌, ◌⊎◌, ◌↔◌, true, false, List, ◌∷◌}
use Rattle.std.specs.Prelude.{◌++◌, All, Contains, IsUtf8, Some, filter, length, max, zip}
use Rattle.std.specs.List.{AllZip, fold}
use Rattle.texts.specs.Limits.{line_limit}
use Rattle.pep_marker.specs.Environment.{EnvironmentParts}
use Rattle.pep_require.specs.Faults.{beginning_fault}
use Rattle.pep_require.specs.LineParts.{StartsLine}
use Rattle.pep_require.specs.declared.fault.RequireFault.{RequireFault}
use Rattle.faults.specs.declared.fault.Cause.{Cause}
use Rattle.faults.specs.declared.fault.Cause.TheVariants as cause
use Rattle.faults.specs.declared.fault.LineFault.{LineFault}
use Rattle.faults.specs.declared.fault.LineFault.TheVariants as line_fault
use Rattle.inputs.specs.declared.input.Input.{Input}
use Rattle.inputs.specs.declared.input.Kind.TheVariants as kind
use Rattle.inputs.specs.Gathered.{HasLine, HasTable}
use Rattle.inputs.specs.Lists.{content, is_skipped, lines_of}
use Rattle.inputs.specs.Refusal.{IsNoLine}
use Rattle.demands.specs.Table.{TableParts}

-- ---- the shard of a name

-- the number with one more digit to the base 1,000,003, in 64 bits
abbrev pub with_digit : ℕ → ℕ → ℕ
with_digit n byte = ((n * 1000003) % 2 ^ 64 + byte) % 2 ^ 64

-- the bytes as one number, each a digit to the base 1,000,003, in 64 bits
abbrev pub number_of : List ℕ → ℕ
number_of bytes = fold with_digit 0 bytes

-- the shard of a normalized name among so many, of which there is one at least
abbrev pub shard_of : ℕ → List ℕ → ℕ
shard_of count name = number_of name % max 1 count

-- ---- the shards of lines

-- a requirement with a name of the shard begins the text
abbrev pub IsInShard : ℕ → ℕ → List ℕ → Type 0
IsInShard count shard text =
    (name rest : List ℕ) × StartsLine text name rest × (shard_of count name ≡ shard)

-- the shard of what a line holds, and the count behind all shards where that is nothing or a comment
abbrev pub IsShardOf : ℕ → List ℕ → ℕ → Type 0
IsShardOf count text shard =
    ((is_skipped text ≡ true) × (shard ≡ max 1 count))
    ⊎ ((is_skipped text ≡ false) × IsInShard count shard text)

-- the line is one that a list may have, and this is its shard
pub record IsShardOfLine (count : ℕ) (line : List ℕ) (shard : ℕ) : Type 0 where
  pub short : length line ≤ line_limit
  pub text : IsUtf8 line
  pub is : IsShardOf count (content line) shard

-- the shards of the lines of a list, in turn
abbrev pub AreShards : ℕ → List ℕ → List ℕ → Type 0
AreShards count bytes shards = AllZip (IsShardOfLine count) (lines_of bytes) shards

-- ---- lines with no shard

-- Why a line has no shard: it is none that a list may have; or else it isn't skipped, and begins with no
-- name. What stands behind a name has no part in this.
pub data HasNoShard (line : List ℕ) (fault : LineFault) : Type 0 where
  no_line : IsNoLine line fault → HasNoShard line fault
  no_name : (f : RequireFault) → length line ≤ line_limit → IsUtf8 line →
      is_skipped (content line) ≡ false → beginning_fault (content line) ≡ Some f →
      fault ≡ line_fault.Requirement f → HasNoShard line fault

-- Why a list has no shards: the cause names the first of its lines that has none, and why. A list may
-- be of any size.
pub record HasNoShards (bytes : List ℕ) (c : Cause) : Type 0 where
  pub before : List (List ℕ)
  pub line : List ℕ
  pub behind : List (List ℕ)
  pub stands : before ++ line ∷ behind ≡ lines_of bytes
  pub first : All (λ l. (f : LineFault) → ¬ HasNoShard l f) before
  pub fault : LineFault
  pub refused : HasNoShard line fault
  pub is : c ≡ cause.Line (length before + 1) fault

-- ---- one shard of inputs

-- the second inputs have those lines of the first whose names are in the shard, in whatever order and
-- grouping, and however often; and none of both are tables
pub record HaveShard (e : EnvironmentParts) (count shard : ℕ) (all part : List Input) : Type 0 where
  pub lines : (line : List ℕ) →
      HasLine e part line ↔ (HasLine e all line × IsInShard count shard line)
  pub no_tables : (t : TableParts) → ¬ HasTable e all t
  pub no_tables_in_part : (t : TableParts) → ¬ HasTable e part t

-- ---- the lists of one shard

-- by the shards that are told of the lines of one of the lists, the line has the shard
abbrev pub HasToldLine : ℕ → ℕ → List Input → List ℕ → Type 0
HasToldLine count shard all line = (i : Input) × Contains all i × ((shards : List ℕ)
    × AreShards count i.bytes.items shards × Contains (zip (lines_of i.bytes.items) shards) (line, shard))

-- one of the lists has the line
abbrev pub HasListLine : List Input → List ℕ → Type 0
HasListLine lists line = (i : Input) × Contains lists i × Contains (lines_of i.bytes.items) line

-- The second lists are made of those lines of the first that are told to have the shard, in whatever order
-- and grouping, and however often; and perhaps of skipped lines. All of the first are split.
pub record AreListsOfShard (count shard : ℕ) (all part : List Input) : Type 0 where
  pub lists : All (λ i. i.kind ≡ kind.List) all
  pub lists_in_part : All (λ i. i.kind ≡ kind.List) part
  pub split : All (λ i. (shards : List ℕ) × AreShards count i.bytes.items shards) all
  pub given : (line : List ℕ) → HasToldLine count shard all line → HasListLine part line
  pub no_others : (line : List ℕ) → HasListLine part line →
      HasToldLine count shard all line ⊎ (is_skipped (content line) ≡ true)

-- ---- one shard of a table

-- the entries of the names in the shard
abbrev pub shard_of_table : ℕ → ℕ → TableParts → TableParts
shard_of_table count shard t = filter (λ p. shard_of count p.0 == shard) t
