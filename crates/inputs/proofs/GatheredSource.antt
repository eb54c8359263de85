-- What a list demands that was read, and why it is refused.
use Rattle.std.proofs.Common.{◌≡◌, ◌≢◌, ◌≤◌, ℕ, ◌⊎◌, Bool, true, false, List, [], ◌∷◌, ◌++◌, length}
use Rattle.std.proofs.Common.{subst, sym, refl, ◌∙◌, inl, inr, Option, None}
use Rattle.std.specs.Prelude.{All, IsUtf8}
use Rattle.std.specs.List.{AllByRecursion}
use Rattle.std.proofs.lemmas.List.Elements.{All-from_recursion}
use Rattle.devices.specs.Device.{Device}
use Rattle.texts.specs.Limits.{line_limit}
use Rattle.pep_marker.specs.Environment.{EnvironmentParts}
use Rattle.pep_table.proofs.SameDemands.{same_demands}
use Rattle.demands.specs.Demand.{ApplyingDemands, Demand, HaveSameDemands, Together}
use Rattle.demands.specs.Table.{HasExactPoints, IsTable, TableParts}
use Rattle.faults.specs.declared.fault.Cause.{Cause}
use Rattle.faults.specs.declared.fault.Cause.TheVariants as cause
use Rattle.faults.specs.declared.fault.Fault.{Fault}
use Rattle.faults.specs.declared.fault.Place.TheVariants as place
use Rattle.documents.proofs.Placed.{memory_or_other}
use Rattle.inputs.specs.declared.input.Kind.TheVariants as kind
use Rattle.inputs.specs.declared.input.Input.{Input}
use Rattle.inputs.specs.Gathered.{AcceptsBytes, BytesDemand, Gathered, IsAccepted}
use Rattle.inputs.specs.Merge.{IsMerge}
use Rattle.pep_table.specs.TableText.{IsTableText}
use Rattle.inputs.proofs.MergeLemmas.{shows_verdicts}
use Rattle.inputs.specs.Way.GatheredLines.{GathersBytes}
use Rattle.inputs.specs.Way.LineReading.{RefusesSource, TakesInTurn, TakesSource}
use Rattle.inputs.specs.Way.LineReading as reading
use Rattle.pep_require.specs.Requirement.{RequirementParts}
use Rattle.pep_marker.specs.Environment.{extra_in}
use Rattle.std.specs.Prelude.{◌↔◌}
use Rattle.inputs.specs.Lists.{Lists, content, is_skipped, requirements_among}
use Rattle.inputs.specs.Refusal.{IsRefused, no_memory}
use Rattle.inputs.specs.Streams.{IsGoodLine, IsTableOfList, MayFollow, ReadsDefined}
use Rattle.inputs.specs.Streams.{ReadsTable, RefusesReading, by_bytes, by_failure}
use Rattle.inputs.specs.Way.TakenTexts.{GathersText, RefusesTextIn}
use Rattle.inputs.specs.Way.Wanted.{Wanted}
use Rattle.inputs.proofs.AcceptedInputs.{bytes_demand_in, defined_all, refused_bytes}
use Rattle.inputs.proofs.TakenTexts.{list_gathered, list_refused_in}
use Rattle.inputs.proofs.WantedDemands.{nothing_besides, wanted_is_table, wanted_nothing}

-- ---- the table

module _ (e : EnvironmentParts) (bytes : List ℕ) where
  -- the demands of the bytes, from nothing
  from_nothing : (rs : List RequirementParts) (name : List ℕ) (d : Demand) →
      Lists (extra_in e) kind.List None bytes rs →
      Wanted None (Together (λ name d. ⊥) (ApplyingDemands e rs)) name d
      ↔ BytesDemand e kind.List None bytes name d
  from_nothing rs name d is = (there, λ h. (refl, inr (same.1 h)))
    where
      same : ApplyingDemands e rs name d ↔ BytesDemand e kind.List None bytes name d
      same = bytes_demand_in e kind.List None bytes rs name d is

      there : Wanted None (Together (λ name d. ⊥) (ApplyingDemands e rs)) name d →
          BytesDemand e kind.List None bytes name d
      there h = same.0 ((nothing_besides (ApplyingDemands e rs) name d).0 h.1)

  table_of_list : (t : TableParts) → GathersBytes e None kind.List None bytes [] t →
      IsTableOfList e bytes t
  table_of_list t (inl (rs, is, takes)) =
      let start = wanted_nothing None in
      let one = wanted_is_table e None (λ name d. ⊥) [] rs t start.0 start.1 takes in
      let all = same_demands (Wanted None (Together (λ name d. ⊥) (ApplyingDemands e rs)))
      (BytesDemand e kind.List None bytes) t (λ name d. from_nothing rs name d is) one.0 one.1 in
      record {
        accepted = inl (rs, is, defined_all e None [] rs t takes);
        is_table = all.0;
        points = all.1;
      }
  table_of_list t (inr h) = absurd h.1

-- the table of a list that was read
pub reads_table : (e : EnvironmentParts) (left after : Option (List ℕ)) (start t : TableParts) →
    start ≡ [] → TakesSource (GathersText e None) left after start t → ReadsTable e left after t
reads_table e left after start t none h = record {
  bytes = h.bytes;
  reads = h.reads;
  whole = h.whole;
  of_list = table_of_list e h.bytes t (subst (λ old. GathersBytes e None kind.List None h.bytes old t) none
      (list_gathered e None h.bytes start t h.taken));
}

-- ---- an input of the same bytes

-- it demands the same
one_input : (e : EnvironmentParts) (i : Input) → i.kind ≡ kind.List →
    HaveSameDemands (BytesDemand e kind.List None i.bytes.items) (Gathered e (i ∷ []))
one_input e i is name d =
    (λ h. inl (subst (λ k. BytesDemand e k i.group i.bytes.items name d) (sym is) h), back)
  where
    back : Gathered e (i ∷ []) name d → BytesDemand e kind.List None i.bytes.items name d
    back (inl h) = subst (λ k. BytesDemand e k i.group i.bytes.items name d) is h
    back (inr never) = absurd never

pub accepted_input : (e : EnvironmentParts) (i : Input) (t : TableParts) → i.kind ≡ kind.List →
    IsTableOfList e i.bytes.items t → All (IsAccepted e) (i ∷ [])
accepted_input e i t is h =
    All-from_recursion (IsAccepted e) (i ∷ [])
    (subst (λ k. AcceptsBytes e k i.group i.bytes.items) (sym is) h.accepted, tt)

pub table_of_input : (e : EnvironmentParts) (i : Input) (t : TableParts) → i.kind ≡ kind.List →
    IsTableOfList e i.bytes.items t →
    IsTable (Gathered e (i ∷ [])) t × HasExactPoints (Gathered e (i ∷ [])) t
table_of_input e i t is h =
    same_demands (BytesDemand e kind.List None i.bytes.items) (Gathered e (i ∷ [])) t
    (one_input e i is) h.is_table h.points

pub merged_input : (e : EnvironmentParts) (i : Input) (t : TableParts) (x : List ℕ) →
    i.kind ≡ kind.List → IsTableOfList e i.bytes.items t → IsTableText e t x → IsMerge e (i ∷ []) x
merged_input e i t x is h text =
    let one = table_of_input e i t is h in
    record {
      accepted = accepted_input e i t is h;
      table = t;
      is_table = one.0;
      points = one.1;
      text = text;
      verdicts = shows_verdicts (Gathered e (i ∷ [])) t one.0;
    }

-- ---- refusals

-- lines whose texts are taken are lines that a list in the environment may have
good_lines : (e : EnvironmentParts) (done : List (List ℕ)) (old new : TableParts) →
    AllByRecursion (λ line. length line ≤ line_limit) done → AllByRecursion IsUtf8 done →
    TakesInTurn (GathersText e None) (requirements_among done) old new →
    AllByRecursion (IsGoodLine (ReadsDefined e)) done
good_lines e [] old new short texts t = tt
good_lines e (line ∷ done) old new short texts t =
    by (is_skipped (content line)) refl
    (λ old left. good_lines e done old new short.1 texts.1 left)
  where
    by : (skipped : Bool) → is_skipped (content line) ≡ skipped →
        ((old : TableParts) → TakesInTurn (GathersText e None) (requirements_among done) old new →
        AllByRecursion (IsGoodLine (ReadsDefined e)) done) →
        AllByRecursion (IsGoodLine (ReadsDefined e)) (line ∷ done)
    by true seen more = (
      record { short = short.0; text = texts.0; requirement = λ kept. cc (seen, kept) },
      more old (rw seen at t),
    )
    by false seen more =
        let taken = rw seen at t in (
          record {
            short = short.0;
            text = texts.0;
            requirement = λ kept. (taken.1.0, (taken.1.1, (taken.1.2.1, taken.1.2.2)));
          },
          more taken.0 taken.2,
        )

-- why a list is refused that is read
pub reading_refused : (e : EnvironmentParts) (left after : Option (List ℕ)) (source : Device)
    (start : TableParts) (c : Cause) (f : Fault) → start ≡ [] →
    RefusesSource (GathersText e None) (RefusesTextIn e) left after source.failed start c →
    f.cause ≡ c → (c ≡ cause.NoMemory → f ≡ no_memory) →
    (c ≢ cause.NoMemory → f.place ≡ place.Input 1) →
    (f ≡ no_memory) ⊎ RefusesReading e left after source f
reading_refused e left after source start c f nothing (reading.by_memory is) same none at =
    inl (none is)
reading_refused e left after source start c f nothing
    (reading.by_failure bytes held number new did is reads room has) same none at =
    let told : c ≢ cause.NoMemory = λ memory. cc (is, memory) in
    inr (by_failure did (λ i. record { place = at told i; cause = (same ∙ is) i }) (record {
      bytes = bytes;
      reads = reads;
      bound = room;
      ended = has.lines.done;
      held = held;
      split = has.lines.split;
      good = All-from_recursion (IsGoodLine (ReadsDefined e)) has.lines.done
          (good_lines e has.lines.done start new has.lines.short has.lines.texts has.lines.taken);
      short = has.is_held.short;
    }))
reading_refused e left after source start c f nothing
    (reading.by_bytes bytes ready reads room refuses) same none at =
    by (memory_or_other c)
  where
    refused : c ≢ cause.NoMemory → (more : List ℕ) → MayFollow after more →
        IsRefused e kind.List None (bytes ++ more) f.cause
    refused told more follows =
        elim (list_refused_in e (bytes ++ more) c (refuses more follows)) [
          | inl memory ↦ absurd (told memory)
          | inr h ↦ subst (IsRefused e kind.List None (bytes ++ more)) (sym same) h
        ]

    by : (c ≡ cause.NoMemory) ⊎ (c ≢ cause.NoMemory) →
        (f ≡ no_memory) ⊎ RefusesReading e left after source f
    by (inl memory) = inl (none memory)
    by (inr told) = inr (by_bytes ready (record {
      bytes = bytes;
      reads = reads;
      bound = room;
      lies = at told;
      is_refused = refused told;
      not_accepted = λ overflow more follows. refused_bytes e kind.List None (bytes ++ more) f.cause
          overflow (refused told more follows);
    }))
