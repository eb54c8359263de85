-- What merging inputs in an environment gives.
use Rattle.std.specs.Prelude.{ℕ, List, All, IfSome}
use Rattle.pep_marker.specs.Environment.{EnvironmentParts}
use Rattle.demands.specs.declared.verdict.Verdict.{Verdict}
use Rattle.demands.specs.Demand.{Demands}
use Rattle.demands.specs.Table.{HasExactPoints, TableParts, IsTable, entry_at}
use Rattle.pep_table.specs.TableText.{IsTableText, Shows}
use Rattle.demands.specs.Verdict.{IsVerdict}
use Rattle.inputs.specs.declared.input.Input.{Input}
use Rattle.inputs.specs.Gathered.{IsAccepted, Gathered}

-- The verdict that is printed for each name is the verdict on all demands on it: `none` exactly if
-- no version meets them all.
abbrev pub ShowsVerdicts : Demands → TableParts → Type 0
ShowsVerdicts Q t =
    (name : List ℕ) → IfSome (entry_at t name) (λ e. (w : Verdict) → Shows e w →
    IsVerdict (Q name) w)

-- every input is accepted, and this is the text of the table of all that they demand, in the environment
pub record IsMerge (e : EnvironmentParts) (inputs : List Input) (x : List ℕ) : Type 0 where
  pub accepted : All (IsAccepted e) inputs
  pub table : TableParts
  pub is_table : IsTable (Gathered e inputs) table
  pub points : HasExactPoints (Gathered e inputs) table
  pub text : IsTableText e table x
  pub verdicts : ShowsVerdicts (Gathered e inputs) table
