-- Inputs that have the same requirements, or the same lines, demand the same.
use Rattle.std.proofs.Common.{◌≡◌, ℕ, ◌⊎◌, List, [], ◌∷◌, Option, Ok, refl, sym, subst, inl, inr}
use Rattle.std.specs.Prelude.{All, Contains}
use Rattle.std.proofs.lemmas.List.Elements.{All-contains}
use Rattle.pep_marker.specs.Environment.{EnvironmentParts, extra_in}
use Rattle.pep_require.proofs.LineLaws.{one_requirement}
use Rattle.pep_require.specs.Reads.{Reads}
use Rattle.pep_require.specs.Requirement.{Applies, RequirementParts}
use Rattle.pep_require.proofs.Members.{in_either, in_first, in_none, in_rest}
use Rattle.demands.specs.Demand.{Demand, Demands, HaveSameDemands, RequirementDemands}
use Rattle.demands.specs.Table.{TableDemands, TableParts}
use Rattle.documents.proofs.GroupEnds.{one_texts}
use Rattle.documents.proofs.ReadTexts.{zip_line, zip_read}
use Rattle.inputs.specs.declared.input.Input.{Input}
use Rattle.inputs.specs.declared.input.Kind.{Kind}
use Rattle.inputs.specs.declared.input.Kind.TheVariants as kind
use Rattle.inputs.specs.Gathered.{BytesDemand, Gathered, HasLine, HasRequirement, HaveSameLines}
use Rattle.inputs.specs.Gathered.{AcceptsBytes, HasTable, HaveSameRequirements, IsAccepted}
use Rattle.inputs.specs.Lists.{HoldsTable, IsInputText, Lists, requirement_lines}

-- ---- by requirements

-- what inputs demand, one of their requirements demands, or a table that one of them is
abbrev pub ByOne : EnvironmentParts → List Input → Demands
ByOne e inputs name d =
    ((r : RequirementParts) × HasRequirement e inputs r × Applies e r × RequirementDemands r name d)
    ⊎ ((t : TableParts) × HasTable e inputs t × TableDemands t name d)

one_further : (e : EnvironmentParts) (i : Input) (inputs : List Input) (name : List ℕ)
    (d : Demand) → ByOne e inputs name d → ByOne e (i ∷ inputs) name d
one_further e i inputs name d (inl (r, (j, among, has), applies, demands)) =
    inl (r, (j, in_rest i inputs j among, has), applies, demands)
one_further e i inputs name d (inr (t, (j, among, is), demands)) =
    inr (t, (j, in_rest i inputs j among, is), demands)

pub demanded_by : (e : EnvironmentParts) (inputs : List Input) (name : List ℕ) (d : Demand) →
    Gathered e inputs name d → ByOne e inputs name d
demanded_by e [] name d g = absurd g
demanded_by e (i ∷ inputs) name d (inl (inl (rs, is, (r, has, applies, demands)))) =
    inl (r, (i, in_first i inputs i refl, (rs, is, has)), applies, demands)
demanded_by e (i ∷ inputs) name d (inl (inr (t, is, demands))) =
    inr (t, (i, in_first i inputs i refl, is), demands)
demanded_by e (i ∷ inputs) name d (inr g) =
    one_further e i inputs name d (demanded_by e inputs name d g)

-- .. and what one of them demands, the inputs do
pub demands_of : (e : EnvironmentParts) (inputs : List Input) (i : Input) (name : List ℕ)
    (d : Demand) → Contains inputs i → BytesDemand e i.kind i.group i.bytes.items name d →
    Gathered e inputs name d
demands_of e [] i name d has q = absurd (in_none i has)
demands_of e (j ∷ inputs) i name d has q = elim (in_either j inputs i has) [
  | inl same ↦ inl (subst (λ (k : Input). BytesDemand e k.kind k.group k.bytes.items name d) (sym same) q)
  | inr more ↦ inr (demands_of e inputs i name d more q)
]

demands_too : (e : EnvironmentParts) (a b : List Input)
    (same : (r : RequirementParts) → HasRequirement e a r → HasRequirement e b r)
    (tables : (t : TableParts) → HasTable e a t → HasTable e b t) (name : List ℕ) (d : Demand) →
    Gathered e a name d → Gathered e b name d
demands_too e a b same tables name d g = by (demanded_by e a name d g)
  where
    by : ByOne e a name d → Gathered e b name d
    by (inl h) = let there = same h.0 h.1 in
        demands_of e b there.0 name d there.1
        (inl (there.2.0, there.2.1, (h.0, there.2.2, h.2, h.3)))
    by (inr h) = let there = tables h.0 h.1 in
        demands_of e b there.0 name d there.1 (inr (h.0, there.2, h.2))

pub same_requirements : (e : EnvironmentParts) (a b : List Input) → HaveSameRequirements e a b →
    HaveSameDemands (Gathered e a) (Gathered e b)
same_requirements e a b same = λ name d. (
  demands_too e a b (λ r. (same.0 r).0) (λ t. (same.1 t).0) name d,
  demands_too e b a (λ r. (same.0 r).1) (λ t. (same.1 t).1) name d,
)

-- ---- by lines

-- a text of an input is read as one of its requirements
text_read : (extra : List ℕ) (k : Kind) (group : Option (List ℕ)) (bytes : List ℕ)
    (rs : List RequirementParts) (x : List ℕ) → Lists extra k group bytes rs →
    IsInputText extra k group bytes x → (r : RequirementParts) × Contains rs r × Reads x r
text_read extra kind.List group bytes rs x h has =
    zip_read (requirement_lines bytes) rs x h.requirements has
text_read extra kind.Project group bytes rs x h has =
    let same : has.0 ≡ h.0 = cc (one_texts extra group bytes (Ok has.0) (Ok h.0) has.1 h.1) in
    zip_read h.0 rs x h.2 (subst (λ l. Contains l x) same has.2)
text_read extra kind.Table group bytes rs x h has = absurd h

-- .. and each requirement stands in one of its texts
pub text_of : (extra : List ℕ) (k : Kind) (group : Option (List ℕ)) (bytes : List ℕ)
    (rs : List RequirementParts) (r : RequirementParts) → Lists extra k group bytes rs →
    Contains rs r → (x : List ℕ) × IsInputText extra k group bytes x × Reads x r
text_of extra kind.List group bytes rs r h has =
    zip_line (requirement_lines bytes) rs r h.requirements has
text_of extra kind.Project group bytes rs r h has =
    let found = zip_line h.0 rs r h.2 has in (found.0, (h.0, h.1, found.1), found.2)
text_of extra kind.Table group bytes rs r h has = absurd h

-- a table file has no lines of requirements
no_texts : (e : EnvironmentParts) (extra : List ℕ) (k : Kind) (group : Option (List ℕ))
    (bytes : List ℕ) (t : TableParts) (x : List ℕ) → HoldsTable e k bytes t →
    IsInputText extra k group bytes x → ⊥
no_texts e extra kind.List group bytes t x is has = is
no_texts e extra kind.Project group bytes t x is has = is
no_texts e extra kind.Table group bytes t x is has = has

-- what one input has in a line, an accepted one with this line has too
pub read_too : (e : EnvironmentParts) (b : List Input) (x : List ℕ) (r : RequirementParts) →
    All (IsAccepted e) b → HasLine e b x → Reads x r → HasRequirement e b r
read_too e b x r accepted (i, among, has) reads =
    by (All-contains (IsAccepted e) b i accepted among)
  where
    by : AcceptsBytes e i.kind i.group i.bytes.items → HasRequirement e b r
    by (inl (rs, is, defined)) =
        let found = text_read (extra_in e) i.kind i.group i.bytes.items rs x is has in
        (i, among, (rs, is, subst (Contains rs) (one_requirement x found.0 r found.2 reads) found.1))
    by (inr (t, is)) = absurd (no_texts e (extra_in e) i.kind i.group i.bytes.items t x is has)

requirement_too : (e : EnvironmentParts) (a b : List Input)
    (same : (x : List ℕ) → HasLine e a x → HasLine e b x) (r : RequirementParts) →
    All (IsAccepted e) b → HasRequirement e a r → HasRequirement e b r
requirement_too e a b same r accepted (i, among, (rs, is, has)) =
    let found = text_of (extra_in e) i.kind i.group i.bytes.items rs r is has in
    read_too e b found.0 r accepted (same found.0 (i, among, found.1)) found.2

pub same_lines : (e : EnvironmentParts) (a b : List Input) → All (IsAccepted e) a →
    All (IsAccepted e) b → HaveSameLines e a b → HaveSameDemands (Gathered e a) (Gathered e b)
same_lines e a b all_a all_b same = same_requirements e a b (
  λ r. (
    requirement_too e a b (λ x. (same.0 x).0) r all_b,
    requirement_too e b a (λ x. (same.0 x).1) r all_a,
  ),
  same.1,
)
