-- What merging inputs gives, from the table of what they demand.
use Rattle.std.proofs.Common.{ℕ, List, Option, Some, None, Result, Ok, Err, IfOk}
use Rattle.std.specs.Prelude.{All, IfSome}
use Rattle.pep_marker.specs.Environment.{EnvironmentParts}
use Rattle.demands.proofs.OwnEntry.{own_entry}
use Rattle.demands.proofs.Verdicts.{verdict_between}
use Rattle.demands.specs.Demand.{Demand, Demands}
use Rattle.demands.specs.Table.{EntryDemands, EntryParts, HasExactPoints, IsEntry, IsTable}
use Rattle.demands.specs.Table.{IsValidEntry}
use Rattle.demands.specs.Table.{TableParts, entry_at}
use Rattle.pep_table.specs.TableLaws.{entry_valid}
use Rattle.pep_table.specs.TableText.{IsTableText, Shows}
use Rattle.demands.specs.Verdict.{IsVerdict}
use Rattle.demands.specs.declared.verdict.Verdict.{Verdict}
use Rattle.inputs.specs.declared.input.Input.{Input}
use Rattle.inputs.specs.Gathered.{Gathered, IsAccepted}
use Rattle.inputs.specs.Merge.{IsMerge, ShowsVerdicts}

shown : (Q : Demand → Type 0) (o : Option EntryParts) → IfSome o IsValidEntry →
    IfSome o (IsEntry Q) → IfSome o (λ e. (w : Verdict) → Shows e w → IsVerdict Q w)
shown Q None valid h = tt
shown Q (Some e) valid h =
    λ w shows. verdict_between (EntryDemands e) Q e w valid (own_entry e) h shows

-- a table shows the verdicts on the demands of which it is the table
pub shows_verdicts : (Q : Demands) (t : TableParts) → IsTable Q t → ShowsVerdicts Q t
shows_verdicts Q t h name =
    shown (Q name) (entry_at t name) (entry_valid t name h.valid) (h.entries name)

-- the text of the table of what inputs demand is their merge
pub merges : {A E : Type 0} (text_of : A → List ℕ) (e : EnvironmentParts) (inputs : List Input)
    (t : TableParts) (r : Result A E) → All (IsAccepted e) inputs →
    IsTable (Gathered e inputs) t → HasExactPoints (Gathered e inputs) t →
    IfOk r (λ text. IsTableText e t (text_of text)) → IfOk r (λ text. IsMerge e inputs (text_of text))
merges text_of e inputs t (Err fault) accepted is points has = tt
merges text_of e inputs t (Ok text) accepted is points has = record {
  accepted = accepted;
  table = t;
  is_table = is;
  points = points;
  text = has;
  verdicts = shows_verdicts (Gathered e inputs) t is;
}
