-- Environments of one header are one: what is accepted, demanded and merged in the one is so in the
-- other.
use Rattle.std.proofs.Common.{◌≡◌, ℕ, List, [], ◌∷◌, ◌++◌, ap, sym, ◌∙◌, inl, inr, Option, Some, None}
use Rattle.std.proofs.Common.{Ok, true}
use Rattle.std.proofs.lemmas.List.Elements.{All-weaker}
use Rattle.pep_marker.specs.declared.environment.Variable.TheVariants.{Extra}
use Rattle.pep_marker.specs.Environment.{EnvironmentParts, IsEnvironment, extra_in}
use Rattle.pep_marker.specs.Header.{header}
use Rattle.pep_marker.specs.Holds.{Truth}
use Rattle.pep_marker.specs.Marker.{MarkerParts}
use Rattle.pep_marker.specs.Name.{normalized}
use Rattle.pep_marker.proofs.HeaderLaws.{header_values, same_truth}
use Rattle.pep_require.specs.Requirement.{HasDefinedMarker, MarkerSays, RequirementParts}
use Rattle.demands.specs.Demand.{Demand, HaveSameDemands}
use Rattle.demands.specs.Table.{TableParts}
use Rattle.pep_table.specs.TableText.{IsReadAs}
use Rattle.pep_table.proofs.SameDemands.{same_demands}
use Rattle.documents.proofs.EqualExtras.{texts_alike}
use Rattle.inputs.specs.declared.input.Input.{Input}
use Rattle.inputs.specs.declared.input.Kind.{Kind}
use Rattle.inputs.specs.declared.input.Kind.TheVariants as kind
use Rattle.inputs.specs.Gathered.{AcceptsBytes, BytesDemand, Gathered, IsAccepted}
use Rattle.inputs.specs.Lists.{HoldsTable, Lists}
use Rattle.inputs.specs.Merge.{IsMerge}
use Rattle.inputs.proofs.MergeLemmas.{shows_verdicts}

-- ---- what is so in the other environment

module _ (e f : EnvironmentParts) (is : IsEnvironment e) (are : IsEnvironment f)
    (same : header e ≡ header f) where
  says : (m : Option MarkerParts) (t : Truth) → MarkerSays e m t → MarkerSays f m t
  says None t h = h
  says (Some m) t h = same_truth e f (header_values e f is are same) m t h

  defined : (r : RequirementParts) → HasDefinedMarker e r → HasDefinedMarker f r
  defined r (b, h) = (b, says r.marker (Some b) h)

  extras : normalized (extra_in e) ≡ normalized (extra_in f)
  extras = header_values e f is are same Extra

  lists : (k : Kind) (group : Option (List ℕ)) (bytes : List ℕ) (rs : List RequirementParts) →
      Lists (extra_in e) k group bytes rs → Lists (extra_in f) k group bytes rs
  lists kind.List group bytes rs h = h
  lists kind.Project group bytes rs (xs, found, reads) =
      (xs, texts_alike (extra_in e) (extra_in f) extras group bytes (Ok xs) found, reads)
  lists kind.Table group bytes rs h = h

  read : (t : TableParts) (x : List ℕ) → IsReadAs e t x → IsReadAs f t x
  read t x (inl (ls, h, cut)) = inl (ls, h, cut ∙ ap (λ z. z ++ ls) same)
  read t x (inr h) = inr h

  holds : (k : Kind) (bytes : List ℕ) (t : TableParts) → HoldsTable e k bytes t →
      HoldsTable f k bytes t
  holds kind.List bytes t h = h
  holds kind.Project bytes t h = h
  holds kind.Table bytes t h = record {
    size = h.size;
    encoding = h.encoding;
    valid = h.valid;
    text = read t bytes h.text;
  }

  accepts : (k : Kind) (group : Option (List ℕ)) (bytes : List ℕ) → AcceptsBytes e k group bytes →
      AcceptsBytes f k group bytes
  accepts k group bytes (inl (rs, h, all)) =
      inl (
        rs,
        lists k group bytes rs h,
        All-weaker (HasDefinedMarker e) (HasDefinedMarker f) defined rs all,
      )
  accepts k group bytes (inr (t, h)) = inr (t, holds k bytes t h)

  demand : (k : Kind) (group : Option (List ℕ)) (bytes : List ℕ) (name : List ℕ) (d : Demand) →
      BytesDemand e k group bytes name d → BytesDemand f k group bytes name d
  demand k group bytes name d (inl (rs, h, (r, has, applies, demands))) =
      inl (rs, lists k group bytes rs h, (r, has, says r.marker (Some true) applies, demands))
  demand k group bytes name d (inr (t, h, demands)) = inr (t, holds k bytes t h, demands)

  gathered : (inputs : List Input) (name : List ℕ) (d : Demand) → Gathered e inputs name d →
      Gathered f inputs name d
  gathered [] name d h = h
  gathered (i ∷ inputs) name d (inl h) = inl (demand i.kind i.group i.bytes.items name d h)
  gathered (i ∷ inputs) name d (inr h) = inr (gathered inputs name d h)

  pub accepted : (i : Input) → IsAccepted e i → IsAccepted f i
  accepted i h = accepts i.kind i.group i.bytes.items h

pub demands_alike : (e f : EnvironmentParts) → IsEnvironment e → IsEnvironment f →
    header e ≡ header f → (a : List Input) → HaveSameDemands (Gathered e a) (Gathered f a)
demands_alike e f is are same a name d =
    (gathered e f is are same a name d, gathered f e are is (sym same) a name d)

pub merges_alike : (e f : EnvironmentParts) → IsEnvironment e → IsEnvironment f →
    header e ≡ header f → (a : List Input) (x : List ℕ) → IsMerge e a x → IsMerge f a x
merges_alike e f is are same a x m =
    let both = same_demands (Gathered e a) (Gathered f a) m.table (demands_alike e f is are same a)
    m.is_table m.points in
    record {
      accepted = All-weaker (IsAccepted e) (IsAccepted f) (accepted e f is are same) a m.accepted;
      table = m.table;
      is_table = both.0;
      points = both.1;
      text = (m.text.0, m.text.1, m.text.2 ∙ ap (λ z. z ++ m.text.0) same);
      verdicts = shows_verdicts (Gathered f a) m.table both.0;
    }
