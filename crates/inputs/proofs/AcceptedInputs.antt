-- Which inputs are accepted in an environment, and the table of what they demand there.
use Rattle.std.proofs.Common.{◌≡◌, ℕ, ◌⊎◌, arith, List, [], ◌∷◌, subst, inl, inr, refl}
use Rattle.std.proofs.Common.{Option, None}
use Rattle.std.specs.Prelude.{All, ◌↔◌}
use Rattle.std.specs.List.{AllZip}
use Rattle.std.proofs.lemmas.List.Elements.{All-cons, All-head, All-nil, All-tail}
use Rattle.pep_marker.specs.Environment.{EnvironmentParts, extra_in}
use Rattle.pep_require.proofs.ExtrasLaws.{AllZip-one}
use Rattle.pep_require.proofs.LineLaws.{one_requirement}
use Rattle.pep_require.specs.Reads.{Reads}
use Rattle.pep_require.specs.Requirement.{HasDefinedMarker}
use Rattle.pep_require.specs.Requirement.{RequirementParts}
use Rattle.pep_table.proofs.SameDemands.{same_demands, with_nothing}
use Rattle.demands.specs.Demand.{ApplyingDemands, Demand, Demands, HaveSameDemands, Together}
use Rattle.demands.specs.Table.{HasExactPoints, IsTable, IsValidTable, TableDemands}
use Rattle.demands.specs.Table.{TableParts}
use Rattle.pep_table.proofs.TextFronts.{read_as_one}
use Rattle.faults.specs.declared.fault.Cause.{Cause}
use Rattle.documents.specs.RefusedProject.{IsOverflow}
use Rattle.documents.proofs.Projects.{one_project, refused_project}
use Rattle.inputs.specs.declared.input.Input.{Input}
use Rattle.inputs.specs.declared.input.Kind.{Kind}
use Rattle.inputs.specs.declared.input.Kind.TheVariants as kind
use Rattle.inputs.specs.Way.GatheredLines.{GathersInputs}
use Rattle.inputs.specs.Gathered.{AcceptsBytes, BytesDemand, Gathered, IsAccepted}
use Rattle.inputs.specs.Streams.{ReadsDefined}
use Rattle.inputs.specs.Lists.{HoldsTable, IsListBy, IsRequirementList, Lists, content}
use Rattle.inputs.specs.Lists.{requirement_lines}
use Rattle.inputs.specs.Refusal.{IsRefused, IsUndefinedList}
use Rattle.inputs.specs.TableFiles.{IsRefusedTable, IsTableFile, by_encoding, by_environment, by_size, by_text}
use Rattle.inputs.specs.Way.Wanted.{TakesWanted, Wanted}
use Rattle.inputs.proofs.DefinedMarkers.{both_markers, undefined_project}
use Rattle.inputs.proofs.ListLemmas.{line_of_list, refused_list}
use Rattle.inputs.proofs.WantedDemands.{nothing_besides, part_joined, wanted_is_table}
use Rattle.inputs.proofs.WantedDemands.{wanted_nothing, wanted_same}

-- ---- refused inputs are not accepted

zip_defined : (e : EnvironmentParts) (xs : List (List ℕ)) (rs : List RequirementParts) →
    AllZip Reads xs rs → All (HasDefinedMarker e) rs → AllZip (ReadsDefined e) xs rs
zip_defined e [] [] z h = tt
zip_defined e [] (r ∷ rs) z h = absurd z
zip_defined e (x ∷ xs) [] z h = absurd z
zip_defined e (x ∷ xs) (r ∷ rs) z h = (
  (z.0, All-head (HasDefinedMarker e) r rs h),
  zip_defined e xs rs z.1 (All-tail (HasDefinedMarker e) r rs h),
)

list_defined : (e : EnvironmentParts) (bytes : List ℕ) (rs : List RequirementParts) →
    IsRequirementList bytes rs → All (HasDefinedMarker e) rs → IsListBy (ReadsDefined e) bytes rs
list_defined e bytes rs s h = record {
  size = s.size;
  short = s.short;
  texts = s.texts;
  requirements = zip_defined e (requirement_lines bytes) rs s.requirements h;
}

-- a list with an undefined line
undefined_list : (e : EnvironmentParts) (bytes : List ℕ) (c : Cause) (rs : List RequirementParts) →
    IsUndefinedList e bytes c → IsRequirementList bytes rs → All (HasDefinedMarker e) rs → ⊥
undefined_list e bytes c rs u s h =
    let good = line_of_list {reads = ReadsDefined e} bytes u.numbered.before u.line
    u.numbered.behind rs u.numbered.whole (list_defined e bytes rs s h) in
    let own = good.requirement u.undefined.kept in
    let same : own.0 ≡ u.undefined.requirement =
    one_requirement (content u.line) own.0 u.undefined.requirement own.1.0 u.undefined.reads in
    both_markers e u.undefined.requirement (subst (HasDefinedMarker e) same own.1.1)
    u.undefined.undefined

refused_table : (e : EnvironmentParts) (bytes : List ℕ) (c : Cause) (t : TableParts) →
    IsRefusedTable e bytes c → ¬ IsTableFile e bytes t
refused_table e bytes c t (by_size over is) file = omega (arith, over, file.size)
refused_table e bytes c t (by_encoding size not is) file = not file.encoding
refused_table e bytes c t (by_text line size text none told is) file = none.unread t file.valid file.text
refused_table e bytes c t (by_environment line size text other is) file =
    other.unread t file.valid file.text

pub refused_bytes : (e : EnvironmentParts) (k : Kind) (group : Option (List ℕ)) (bytes : List ℕ)
    (c : Cause) → ¬ IsOverflow c → IsRefused e k group bytes c → ¬ AcceptsBytes e k group bytes
refused_bytes e kind.List group bytes c told (inl h) (inl a) = refused_list bytes c a.0 told h a.1
refused_bytes e kind.List group bytes c told (inr h) (inl a) = undefined_list e bytes c a.0 h a.1 a.2
refused_bytes e kind.List group bytes c told h (inr a) = absurd a.1
refused_bytes e kind.Project group bytes c told (inl h) (inl a) =
    refused_project (extra_in e) group bytes c a.0 told h a.1
refused_bytes e kind.Project group bytes c told (inr h) (inl a) =
    undefined_project e group bytes c a.0 h a.1 a.2
refused_bytes e kind.Project group bytes c told h (inr a) = absurd a.1
refused_bytes e kind.Table group bytes c told h (inl a) = absurd a.1
refused_bytes e kind.Table group bytes c told h (inr a) = refused_table e bytes c a.0 h a.1

pub refused_in : (e : EnvironmentParts) (i : Input) (c : Cause) → ¬ IsOverflow c →
    IsRefused e i.kind i.group i.bytes.items c → ¬ IsAccepted e i
refused_in e i c told h = refused_bytes e i.kind i.group i.bytes.items c told h

-- ---- inputs that are taken are accepted

pub defined_all : (e : EnvironmentParts) (w : Option (List ℕ)) (old : TableParts)
    (rs : List RequirementParts) (new : TableParts) → TakesWanted e w old rs new →
    All (HasDefinedMarker e) rs
defined_all e w old [] new t = All-nil (HasDefinedMarker e)
defined_all e w old (r ∷ rs) new t =
    All-cons (HasDefinedMarker e) r rs (t.1, t.2) (defined_all e w t.0 rs new t.4)

pub all_accepted_in : (e : EnvironmentParts) (w : Option (List ℕ)) (inputs : List Input)
    (old new : TableParts) → GathersInputs e w inputs old new → All (IsAccepted e) inputs
all_accepted_in e w [] old new g = All-nil (IsAccepted e)
all_accepted_in e w (i ∷ inputs) old new (mid, inl (rs, is, takes), more) =
    All-cons (IsAccepted e) i inputs (inl (rs, is, defined_all e w old rs mid takes))
    (all_accepted_in e w inputs mid new more)
all_accepted_in e w (i ∷ inputs) old new (mid, inr (t, is, joins), more) =
    All-cons (IsAccepted e) i inputs (inr (t, is)) (all_accepted_in e w inputs mid new more)

-- ---- the table of what they demand

pub one_list : (extra : List ℕ) (k : Kind) (group : Option (List ℕ)) (bytes : List ℕ)
    (rs qs : List RequirementParts) → Lists extra k group bytes rs → Lists extra k group bytes qs →
    rs ≡ qs
one_list extra kind.List group bytes rs qs h g =
    AllZip-one Reads one_requirement (requirement_lines bytes) rs qs h.requirements g.requirements
one_list extra kind.Project group bytes rs qs h g = one_project extra group bytes rs qs h g
one_list extra kind.Table group bytes rs qs h g = absurd h

-- bytes that are requirements are no table
apart : (e : EnvironmentParts) (extra : List ℕ) (k : Kind) (group : Option (List ℕ))
    (bytes : List ℕ) (rs : List RequirementParts) (t : TableParts) → Lists extra k group bytes rs →
    HoldsTable e k bytes t → ⊥
apart e extra kind.List group bytes rs t h g = g
apart e extra kind.Project group bytes rs t h g = g
apart e extra kind.Table group bytes rs t h g = h

pub one_table_in : (e : EnvironmentParts) (k : Kind) (bytes : List ℕ) (s t : TableParts) →
    HoldsTable e k bytes s → HoldsTable e k bytes t → s ≡ t
one_table_in e kind.List bytes s t h g = absurd h
one_table_in e kind.Project bytes s t h g = absurd h
one_table_in e kind.Table bytes s t h g = read_as_one e s t bytes h.text g.text h.valid g.valid

holds_valid : (e : EnvironmentParts) (k : Kind) (bytes : List ℕ) (t : TableParts) →
    HoldsTable e k bytes t → IsValidTable t
holds_valid e kind.List bytes t h = absurd h
holds_valid e kind.Project bytes t h = absurd h
holds_valid e kind.Table bytes t h = h.valid

pub bytes_demand_in : (e : EnvironmentParts) (k : Kind) (group : Option (List ℕ)) (bytes : List ℕ)
    (rs : List RequirementParts) (name : List ℕ) (d : Demand) →
    Lists (extra_in e) k group bytes rs →
    ApplyingDemands e rs name d ↔ BytesDemand e k group bytes name d
bytes_demand_in e k group bytes rs name d is = (λ h. inl (rs, is, h), back)
  where
    back : BytesDemand e k group bytes name d → ApplyingDemands e rs name d
    back (inl h) = subst (λ (qs : List RequirementParts). ApplyingDemands e qs name d)
        (one_list (extra_in e) k group bytes h.0 rs h.1 is) h.2
    back (inr h) = absurd (apart e (extra_in e) k group bytes rs h.0 is h.1)

pub table_demands_in : (e : EnvironmentParts) (k : Kind) (group : Option (List ℕ))
    (bytes : List ℕ) (t : TableParts) (name : List ℕ) (d : Demand) → HoldsTable e k bytes t →
    TableDemands t name d ↔ BytesDemand e k group bytes name d
table_demands_in e k group bytes t name d is = (λ h. inr (t, is, h), back)
  where
    back : BytesDemand e k group bytes name d → TableDemands t name d
    back (inl h) = absurd (apart e (extra_in e) k group bytes h.0 t h.1 is)
    back (inr h) = subst (λ (s : TableParts). TableDemands s name d)
        (one_table_in e k bytes h.0 t h.1 is) h.2

input_more : (e : EnvironmentParts) (Q : Demands) (i : Input) (inputs : List Input)
    (own : Demands) (name : List ℕ) (d : Demand) →
    own name d ↔ BytesDemand e i.kind i.group i.bytes.items name d →
    Together (Together Q own) (Gathered e inputs) name d
    ↔ Together Q (Gathered e (i ∷ inputs)) name d
input_more e Q i inputs own name d same = (there, back)
  where
    there : (Q name d ⊎ own name d) ⊎ Gathered e inputs name d →
        Q name d ⊎ Gathered e (i ∷ inputs) name d
    there (inl (inl q)) = inl q
    there (inl (inr h)) = inr (inl (same.0 h))
    there (inr h) = inr (inr h)

    back : Q name d ⊎ Gathered e (i ∷ inputs) name d →
        (Q name d ⊎ own name d) ⊎ Gathered e inputs name d
    back (inl q) = inl (inl q)
    back (inr (inl h)) = inl (inr (same.1 h))
    back (inr (inr h)) = inr h

-- a part of what is demanded is what the first input demands
first_joined : (e : EnvironmentParts) (w : Option (List ℕ)) (Q own : Demands) (i : Input)
    (inputs : List Input) (new : TableParts) →
    HaveSameDemands own (BytesDemand e i.kind i.group i.bytes.items) →
    IsTable (Wanted w (Together (Together Q own) (Gathered e inputs))) new
    × HasExactPoints (Wanted w (Together (Together Q own) (Gathered e inputs))) new →
    IsTable (Wanted w (Together Q (Gathered e (i ∷ inputs)))) new
    × HasExactPoints (Wanted w (Together Q (Gathered e (i ∷ inputs)))) new
first_joined e w Q own i inputs new demands all =
    let both = Together (Together Q own) (Gathered e inputs) in
    let same = Together Q (Gathered e (i ∷ inputs)) in
    same_demands (Wanted w both) (Wanted w same) new
    (wanted_same w both same (λ name d. input_more e Q i inputs own name d (demands name d)))
    all.0 all.1

inputs_table : (e : EnvironmentParts) (w : Option (List ℕ)) (Q : Demands) (inputs : List Input)
    (old new : TableParts) → IsTable (Wanted w Q) old → HasExactPoints (Wanted w Q) old →
    GathersInputs e w inputs old new →
    IsTable (Wanted w (Together Q (Gathered e inputs))) new
    × HasExactPoints (Wanted w (Together Q (Gathered e inputs))) new
inputs_table e w Q [] old new t p g =
    let more = Together Q (Gathered e []) in
    same_demands (Wanted w Q) (Wanted w more) new
    (wanted_same w Q more (with_nothing Q (Gathered e []) (λ name d never. never)))
    (subst (IsTable (Wanted w Q)) g t) (subst (HasExactPoints (Wanted w Q)) g p)
inputs_table e w Q (i ∷ inputs) old new t p (mid, inl (rs, is, takes), more) =
    let own = ApplyingDemands e rs in
    let one = wanted_is_table e w Q old rs mid t p takes in
    first_joined e w Q own i inputs new
    (λ name d. bytes_demand_in e i.kind i.group i.bytes.items rs name d is)
    (inputs_table e w (Together Q own) inputs mid new one.0 one.1 more)
inputs_table e w Q (i ∷ inputs) old new t p (mid, inr (s, is, joins), more) =
    let own = TableDemands s in
    let one = part_joined w Q old s mid (holds_valid e i.kind i.bytes.items s is) t p joins in
    first_joined e w Q own i inputs new
    (λ name d. table_demands_in e i.kind i.group i.bytes.items s name d is)
    (inputs_table e w (Together Q own) inputs mid new one.0 one.1 more)

-- the table of what counts of all that the inputs demand
pub wanted_table : (e : EnvironmentParts) (w : Option (List ℕ)) (inputs : List Input)
    (new : TableParts) → GathersInputs e w inputs [] new →
    IsTable (Wanted w (Gathered e inputs)) new × HasExactPoints (Wanted w (Gathered e inputs)) new
wanted_table e w inputs new g =
    let none : Demands = λ name d. ⊥ in
    let start = wanted_nothing w in
    let all = inputs_table e w none inputs [] new start.0 start.1 g in
    same_demands (Wanted w (Together none (Gathered e inputs))) (Wanted w (Gathered e inputs)) new
    (wanted_same w (Together none (Gathered e inputs)) (Gathered e inputs)
    (nothing_besides (Gathered e inputs))) all.0 all.1

-- the table of all that they demand
pub gathered_table : (e : EnvironmentParts) (inputs : List Input) (new : TableParts) →
    GathersInputs e None inputs [] new →
    IsTable (Gathered e inputs) new × HasExactPoints (Gathered e inputs) new
gathered_table e inputs new g =
    let all = wanted_table e None inputs new g in
    same_demands (Wanted None (Gathered e inputs)) (Gathered e inputs) new
    (λ name d. ((λ q. q.1), λ q. (refl, q))) all.0 all.1
