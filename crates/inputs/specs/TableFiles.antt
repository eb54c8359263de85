-- Table files: bytes that are the text of a table in the environment, or its lines alone.
use Rattle.std.specs.Prelude.{◌≡◌, ℕ, ◌<◌, ◌≤◌, IsUtf8, List, length}
use Rattle.pep_marker.specs.Environment.{EnvironmentParts}
use Rattle.demands.specs.Table.{IsValidTable, TableParts}
use Rattle.pep_table.specs.Refused.{IsToldLine}
use Rattle.pep_table.specs.TableText.{IsMadeElsewhere, IsNoTableText, IsReadAs}
use Rattle.faults.specs.declared.fault.Cause.{Cause}
use Rattle.faults.specs.declared.fault.Cause.TheVariants as cause
use Rattle.faults.specs.declared.fault.LineFault.TheVariants as line_fault
use Rattle.texts.specs.Limits.{input_limit}

-- the bytes are read as this table in the environment (whose texts are any bytes here, so that UTF-8 is
-- asked for beside)
pub record IsTableFile (e : EnvironmentParts) (bytes : List ℕ) (t : TableParts) : Type 0 where
  pub size : length bytes ≤ input_limit
  pub encoding : IsUtf8 bytes
  pub valid : IsValidTable t
  pub text : IsReadAs e t bytes

-- Why bytes are refused as a table file: they are more than an input may have; or else they aren't
-- UTF-8; or else no table has them as its text, and the cause names a line that is told so; or a table
-- has, in another environment, and the cause names the line where its header differs.
pub data IsRefusedTable (e : EnvironmentParts) (bytes : List ℕ) (c : Cause) : Type 0 where
  by_size : input_limit < length bytes → c ≡ cause.TooLarge → IsRefusedTable e bytes c
  by_encoding : length bytes ≤ input_limit → ¬ IsUtf8 bytes → c ≡ cause.NotUtf8 →
      IsRefusedTable e bytes c
  by_text : (line : ℕ) → length bytes ≤ input_limit → IsUtf8 bytes → IsNoTableText e bytes →
      IsToldLine bytes line → c ≡ cause.Line line line_fault.BadTable → IsRefusedTable e bytes c
  by_environment : (line : ℕ) → length bytes ≤ input_limit → IsUtf8 bytes →
      IsMadeElsewhere e bytes line → c ≡ cause.Line line line_fault.OtherEnvironment →
      IsRefusedTable e bytes c
