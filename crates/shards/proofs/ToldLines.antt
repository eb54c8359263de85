-- Lists that are made of the lines with one shard, as it is told of them, are that shard of the lists.
use Rattle.std.proofs.Common.{◌≡◌, ℕ, ◌⊎◌, ◌∙◌, List, [], ◌∷◌, true, false, Option, subst, sym, inl, inr}
use Rattle.std.specs.List.{AllZip}
use Rattle.std.specs.Prelude.{All, Contains, zip}
use Rattle.std.proofs.lemmas.List.Elements.{All-contains}
use Rattle.pep_marker.specs.Environment.{EnvironmentParts, extra_in}
use Rattle.pep_require.proofs.Members.{in_either, in_first, in_none, in_rest}
use Rattle.demands.specs.Table.{TableParts}
use Rattle.inputs.specs.Gathered.{HasLine, HasTable}
use Rattle.inputs.proofs.ListTexts.{IsKept, kept_in, kept_of}
use Rattle.inputs.specs.Lists.{HoldsTable, IsInputText, content, is_skipped, lines_of, requirement_lines}
use Rattle.inputs.specs.declared.input.Input.{Input}
use Rattle.inputs.specs.declared.input.Kind.{Kind}
use Rattle.inputs.specs.declared.input.Kind.TheVariants as kind
use Rattle.shards.proofs.ShardLaws.{one_shard}
use Rattle.shards.specs.Shards.{AreListsOfShard, AreShards, HasToldLine, HaveShard, IsInShard, IsShardOfLine}

-- ---- lines and their shards

pair_in : (count : ℕ) (lines : List (List ℕ)) (shards : List ℕ) (line : List ℕ) (shard : ℕ) →
    AllZip (IsShardOfLine count) lines shards → Contains (zip lines shards) (line, shard) →
    Contains lines line × IsShardOfLine count line shard
pair_in count [] shards line shard z has = absurd (in_none (line, shard) has)
pair_in count (l ∷ lines) [] line shard z has = absurd z
pair_in count (l ∷ lines) (s ∷ shards) line shard z has =
    elim (in_either (l, s) (zip lines shards) (line, shard) has) [
      | inl same ↦
          let first : l ≡ line = λ i. (same i).0 in
          let second : s ≡ shard = λ i. (same i).1 in (
            in_first l lines line first,
            subst (λ n. IsShardOfLine count line n) second
                (subst (λ t. IsShardOfLine count t s) first z.0),
          )
      | inr more ↦
          let rest = pair_in count lines shards line shard z.1 more in
          (in_rest l lines line rest.0, rest.1)
    ]

told_of : (count : ℕ) (lines : List (List ℕ)) (shards : List ℕ) (line : List ℕ) →
    AllZip (IsShardOfLine count) lines shards → Contains lines line →
    (shard : ℕ) × Contains (zip lines shards) (line, shard) × IsShardOfLine count line shard
told_of count [] shards line z has = absurd (in_none line has)
told_of count (l ∷ lines) [] line z has = absurd z
told_of count (l ∷ lines) (s ∷ shards) line z has = elim (in_either l lines line has) [
  | inl same ↦ (
    s,
    in_first (l, s) (zip lines shards) (line, s) (λ i. (same i, s)),
    subst (λ t. IsShardOfLine count t s) same z.0,
  )
  | inr more ↦
      let rest = told_of count lines shards line z.1 more in
      (rest.0, in_rest (l, s) (zip lines shards) (line, rest.0) rest.1, rest.2)
]

-- a line that isn't skipped begins with a name of its shard
names_shard : (count shard : ℕ) (line : List ℕ) → IsShardOfLine count line shard →
    is_skipped (content line) ≡ false → IsInShard count shard (content line)
names_shard count shard line h kept = elim h.is [
  | inl skipped ↦ let never : true ≡ false = sym skipped.0 ∙ kept in cc never
  | inr named ↦ named.1
]

-- ---- inputs that are lists

never_both : (x : List ℕ) → is_skipped x ≡ true → is_skipped x ≡ false → ⊥
never_both x skipped kept = let both : true ≡ false = sym skipped ∙ kept in cc both

text_in : (extra : List ℕ) (k : Kind) (group : Option (List ℕ)) (bytes x : List ℕ) → k ≡ kind.List →
    Contains (requirement_lines bytes) x → IsInputText extra k group bytes x
text_in extra k group bytes x is has = subst (λ j. IsInputText extra j group bytes x) (sym is) has

text_from : (extra : List ℕ) (k : Kind) (group : Option (List ℕ)) (bytes x : List ℕ) → k ≡ kind.List →
    IsInputText extra k group bytes x → Contains (requirement_lines bytes) x
text_from extra k group bytes x is has = subst (λ j. IsInputText extra j group bytes x) is has

no_table : (e : EnvironmentParts) (inputs : List Input) (t : TableParts) →
    All (λ i. i.kind ≡ kind.List) inputs → ¬ HasTable e inputs t
no_table e inputs t lists (i, among, is) =
    subst (λ k. HoldsTable e k i.bytes.items t)
    (All-contains (λ i. i.kind ≡ kind.List) inputs i lists among) is

module _ (e : EnvironmentParts) (count shard : ℕ) (all part : List Input)
    (h : AreListsOfShard count shard all part) where
  abbrev IsList : Input → Type 0
  IsList i = i.kind ≡ kind.List

  -- a line that is told to have the shard is one of all, and has it
  from_told : (line x : List ℕ) → HasToldLine count shard all line → content line ≡ x →
      is_skipped (content line) ≡ false → HasLine e all x × IsInShard count shard x
  from_told line x (i, among, (shards, are, has)) is kept =
      let pair = pair_in count (lines_of i.bytes.items) shards line shard are has in
      let text = kept_in (lines_of i.bytes.items) line pair.0 kept in
      let found : HasLine e all (content line) = (
        i,
        among,
        text_in (extra_in e) i.kind i.group i.bytes.items (content line)
            (All-contains IsList all i h.lists among) text,
      ) in (
        subst (HasLine e all) is found,
        subst (IsInShard count shard) is (names_shard count shard line pair.1 kept),
      )

  from_line : (x : List ℕ) (i : Input) → Contains part i → IsKept (lines_of i.bytes.items) x →
      HasLine e all x × IsInShard count shard x
  from_line x i among l = by (h.no_others l.line (i, among, l.among))
    where
      by : HasToldLine count shard all l.line ⊎ (is_skipped (content l.line) ≡ true) →
          HasLine e all x × IsInShard count shard x
      by (inl told) = from_told l.line x told l.text l.kept
      by (inr skipped) = absurd (never_both (content l.line) skipped l.kept)

  in_all : (x : List ℕ) → HasLine e part x → HasLine e all x × IsInShard count shard x
  in_all x (i, among, has) =
      from_line x i among
      (kept_of (lines_of i.bytes.items) x
      (text_from (extra_in e) i.kind i.group i.bytes.items x
      (All-contains IsList part i h.lists_in_part among) has))

  in_part : (x : List ℕ) → HasLine e all x × IsInShard count shard x → HasLine e part x
  in_part x ((i, among, has), in_shard) =
      let text = text_from (extra_in e) i.kind i.group i.bytes.items x
      (All-contains IsList all i h.lists among) has in
      let l = kept_of (lines_of i.bytes.items) x text in
      let split =
      All-contains (λ j. (shards : List ℕ) × AreShards count j.bytes.items shards) all i h.split among in
      let told = told_of count (lines_of i.bytes.items) split.0 l.line split.1 l.among in
      let same : told.0 ≡ shard = one_shard count (content l.line) told.0 shard
      (names_shard count told.0 l.line told.2 l.kept) (subst (IsInShard count shard) (sym l.text) in_shard) in
      let there = h.given l.line (
        i,
        among,
        (
          split.0,
          split.1,
          subst (λ n. Contains (zip (lines_of i.bytes.items) split.0) (l.line, n)) same told.1,
        ),
      ) in
      let found : HasLine e part (content l.line) = (
        there.0,
        there.1,
        text_in (extra_in e) there.0.kind there.0.group there.0.bytes.items (content l.line)
            (All-contains IsList part there.0 h.lists_in_part there.1)
            (kept_in (lines_of there.0.bytes.items) l.line there.2 l.kept),
      ) in
      subst (HasLine e part) l.text found

pub told_shard : (e : EnvironmentParts) (count shard : ℕ) (all part : List Input) →
    AreListsOfShard count shard all part → HaveShard e count shard all part
told_shard e count shard all part h = record {
  lines = λ x. (in_all e count shard all part h x, in_part e count shard all part h x);
  no_tables = λ t. no_table e all t h.lists;
  no_tables_in_part = λ t. no_table e part t h.lists_in_part;
}
