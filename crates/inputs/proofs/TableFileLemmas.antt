-- Why bytes are refused as a table file.
use Rattle.std.proofs.Common.{◌≡◌, ℕ, ◌<◌, ◌≤◌, ◌⊎◌, List, length, inl, inr}
use Rattle.std.specs.Prelude.{IsUtf8}
use Rattle.pep_marker.specs.Environment.{EnvironmentParts}
use Rattle.pep_table.specs.Refused.{IsRefusedAsTable, of_none, of_other}
use Rattle.demands.specs.declared.fault.TableFault.{TableFault}
use Rattle.demands.specs.declared.fault.TableFault.TheVariants as table_fault
use Rattle.faults.specs.declared.fault.Cause.{Cause}
use Rattle.faults.specs.declared.fault.Cause.TheVariants as cause
use Rattle.faults.specs.declared.fault.LineFault.TheVariants as line_fault
use Rattle.texts.specs.Limits.{input_limit}
use Rattle.inputs.specs.TableFiles.{IsRefusedTable, by_encoding, by_environment, by_size, by_text}

-- the cause of bytes that aren't the text of a file
pub file_refused : (e : EnvironmentParts) (bytes : List ℕ) (c : Cause) →
    ((c ≡ cause.TooLarge) × (input_limit < length bytes))
    ⊎ ((c ≡ cause.NotUtf8) × (length bytes ≤ input_limit) × ¬ IsUtf8 bytes) → IsRefusedTable e bytes c
file_refused e bytes c (inl h) = by_size h.1 h.0
file_refused e bytes c (inr h) = by_encoding h.1 h.2 h.0

-- the cause of the fault of a text
pub text_refused : (e : EnvironmentParts) (bytes : List ℕ) (f : TableFault) (c : Cause) →
    length bytes ≤ input_limit → IsUtf8 bytes →
    (f ≡ table_fault.NoMemory) ⊎ IsRefusedAsTable e bytes f →
    ((n : ℕ) → f ≡ table_fault.BadTable n → c ≡ cause.Line n line_fault.BadTable) →
    ((n : ℕ) → f ≡ table_fault.OtherEnvironment n →
    c ≡ cause.Line n line_fault.OtherEnvironment) →
    (f ≡ table_fault.NoMemory → c ≡ cause.NoMemory) →
    (c ≡ cause.NoMemory) ⊎ IsRefusedTable e bytes c
text_refused e bytes f c size text (inl memory) line other none = inl (none memory)
text_refused e bytes f c size text (inr (of_none n is no_table told)) line other none =
    inr (by_text n size text no_table told (line n is))
text_refused e bytes f c size text (inr (of_other n is elsewhere)) line other none =
    inr (by_environment n size text elsewhere (other n is))
