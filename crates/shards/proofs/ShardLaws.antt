-- One shard of inputs demands what all of them demand of the names in the shard.
use Rattle.std.proofs.Common.{◌≡◌, ℕ, ◌↔◌, ◌∙◌, List, [], ◌∷◌, ap, refl, subst, sym, inl, inr, Some, true, false}
use Rattle.std.specs.Prelude.{All}
use Rattle.std.specs.List.{AllZip}
use Rattle.pep_marker.specs.Environment.{EnvironmentParts, extra_in}
use Rattle.pep_require.proofs.LineLaws.{read_parts}
use Rattle.pep_require.specs.Faults.{after_name}
use Rattle.pep_require.specs.Reads.{Reads}
use Rattle.pep_require.specs.Requirement.{Applies, RequirementParts}
use Rattle.demands.specs.Demand.{Demand, RequirementDemands}
use Rattle.pep_table.proofs.Taking.{demand_name}
use Rattle.inputs.proofs.SameInputs.{ByOne, demanded_by, demands_of, read_too, text_of}
use Rattle.inputs.specs.declared.input.Input.{Input}
use Rattle.inputs.specs.Gathered.{Gathered, HasLine, HasRequirement, IsAccepted}
use Rattle.inputs.specs.Lists.{content, lines_of}
use Rattle.shards.specs.Shards.{AreShards, HaveShard, IsInShard, IsShardOf, IsShardOfLine, shard_of}

-- the line of a requirement is in the shard of its name ..
line_in_shard : (count shard : ℕ) (x : List ℕ) (r : RequirementParts) → Reads x r →
    shard_of count r.name ≡ shard → IsInShard count shard x
line_in_shard count shard x r reads is =
    let parts = read_parts x r reads in
    (r.name, after_name x, record { beginning = parts.beginning; named = parts.name; behind = refl }, is)

-- .. and in no other one
shard_of_line : (count shard : ℕ) (x : List ℕ) (r : RequirementParts) → Reads x r →
    IsInShard count shard x → shard_of count r.name ≡ shard
shard_of_line count shard x r reads (name, rest, start, is) =
    let both : Some name ≡ Some r.name = sym start.named ∙ (read_parts x r reads).name in
    let same : name ≡ r.name = cc both in
    subst (λ n. shard_of count n ≡ shard) same is

-- a requirement of inputs stands on one of their lines
line_of : (e : EnvironmentParts) (inputs : List Input) (r : RequirementParts) →
    HasRequirement e inputs r → (x : List ℕ) × HasLine e inputs x × Reads x r
line_of e inputs r (i, among, (rs, is, has)) =
    let found = text_of (extra_in e) i.kind i.group i.bytes.items rs r is has in
    (found.0, (i, among, found.1), found.2)

-- what a requirement of inputs demands that applies, they demand
demanded_too : (e : EnvironmentParts) (inputs : List Input) (r : RequirementParts) (name : List ℕ)
    (d : Demand) → HasRequirement e inputs r → Applies e r → RequirementDemands r name d →
    Gathered e inputs name d
demanded_too e inputs r name d (i, among, (rs, is, has)) applies demands =
    demands_of e inputs i name d among (inl (rs, is, (r, has, applies, demands)))

module _ (e : EnvironmentParts) (count shard : ℕ) (all part : List Input)
    (all_accepted : All (IsAccepted e) all) (part_accepted : All (IsAccepted e) part)
    (h : HaveShard e count shard all part) (name : List ℕ) (d : Demand) where
  in_all : ByOne e part name d → (shard_of count name ≡ shard) × Gathered e all name d
  in_all (inl (r, has, applies, demands)) =
      let (x, line, reads) = line_of e part r has in
      let there = (h.lines x).0 line in
      let own = shard_of_line count shard x r reads there.1 in (
        ap (shard_of count) (demand_name r name d demands) ∙ own,
        demanded_too e all r name d (read_too e all x r all_accepted there.0 reads) applies demands,
      )
  in_all (inr (t, has, demands)) = absurd (h.no_tables_in_part t has)

  in_part : shard_of count name ≡ shard → ByOne e all name d → Gathered e part name d
  in_part is (inl (r, has, applies, demands)) =
      let (x, line, reads) = line_of e all r has in
      let own = ap (shard_of count) (sym (demand_name r name d demands)) ∙ is in
      let there = (h.lines x).1 (line, line_in_shard count shard x r reads own) in
      demanded_too e part r name d (read_too e part x r part_accepted there reads) applies demands
  in_part is (inr (t, has, demands)) = absurd (h.no_tables t has)

pub shard_demands : (e : EnvironmentParts) (count shard : ℕ) (all part : List Input) →
    All (IsAccepted e) all → All (IsAccepted e) part → HaveShard e count shard all part →
    (name : List ℕ) (d : Demand) →
    Gathered e part name d ↔ ((shard_of count name ≡ shard) × Gathered e all name d)
shard_demands e count shard all part all_accepted part_accepted h name d = (
  λ g. in_all e count shard all part all_accepted part_accepted h name d (demanded_by e part name d g),
  λ g. in_part e count shard all part all_accepted part_accepted h name d g.0 (demanded_by e all name d g.1),
)

-- ---- the shard that is told

-- a text begins with a name of one shard
pub one_shard : (count : ℕ) (text : List ℕ) (m n : ℕ) → IsInShard count m text →
    IsInShard count n text → m ≡ n
one_shard count text m n (name, rest, a, is) (other, more, b, was) =
    let both : Some name ≡ Some other = sym a.named ∙ b.named in
    let same : name ≡ other = cc both in sym is ∙ ap (shard_of count) same ∙ was

pub one_split : (count : ℕ) (bytes shards others : List ℕ) → AreShards count bytes shards →
    AreShards count bytes others → shards ≡ others
one_split count bytes shards others h g = each (lines_of bytes) shards others h g
  where
    once : (text : List ℕ) (m n : ℕ) → IsShardOf count text m → IsShardOf count text n → m ≡ n
    once text m n (inl a) (inl b) = a.1 ∙ sym b.1
    once text m n (inl a) (inr b) = let never : true ≡ false = sym a.0 ∙ b.0 in cc never
    once text m n (inr a) (inl b) = let never : true ≡ false = sym b.0 ∙ a.0 in cc never
    once text m n (inr a) (inr b) = one_shard count text m n a.1 b.1

    each : (lines : List (List ℕ)) (xs ys : List ℕ) → AllZip (IsShardOfLine count) lines xs →
        AllZip (IsShardOfLine count) lines ys → xs ≡ ys
    each [] [] [] a b = refl
    each [] (x ∷ xs) ys a b = absurd a
    each [] [] (y ∷ ys) a b = absurd b
    each (l ∷ lines) [] ys a b = absurd a
    each (l ∷ lines) (x ∷ xs) [] a b = absurd b
    each (l ∷ lines) (x ∷ xs) (y ∷ ys) a b =
        ap (λ n. n ∷ xs) (once (content l) x y a.0.is b.0.is)
        ∙ ap (λ ns. y ∷ ns) (each lines xs ys a.1 b.1)
