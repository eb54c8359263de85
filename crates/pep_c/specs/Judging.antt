-- Markers that come in as bytes, in the environment of a file's bytes.
use Rattle.std.specs.Prelude.{◌≡◌, ℕ, ℤ, Bool, List, Some, Ok, Err, IsUtf8}
use Rattle.pep_marker.specs.Environment.{EnvironmentParts}
use Rattle.pep_marker.specs.Holds.{undefined}
use Rattle.pep_marker.specs.Judged.{TextSays}
use Rattle.pep_marker.specs.Marker.{IsNoMarker}
use Rattle.pep_marker.specs.declared.fault.MarkerFault.{MarkerFault}
use Rattle.pep_marker.specs.declared.fault.MarkerFault.TheVariants as marker
use Rattle.pep_require.specs.declared.fault.RequireFault.TheVariants as require
use Rattle.documents.specs.EnvironmentFile.{environment_file}
use Rattle.faults.specs.NoMemory.{no_memory}
use Rattle.faults.specs.declared.fault.Fault.{Fault}
use Rattle.faults.specs.declared.fault.LineFault.TheVariants as line_fault
use Rattle.faults.specs.declared.fault.Place.TheVariants as place
use Rattle.pep_c.specs.FirstLine.{first_line}
use Rattle.pep_c.specs.Versions.{truth_number}

-- a fault of a marker as one of the first line, and lack of memory without a place
abbrev pub marker_fault : MarkerFault → Fault
marker_fault marker.NoMemory = no_memory
marker_fault marker.Undefined = first_line line_fault.Undefined
marker_fault f = first_line (line_fault.Requirement (require.BadMarker f))

-- the bytes are a marker, and the number is 1 exactly if it holds, and else 0
pub record JudgesMarker (environment text : List ℕ) (number : ℤ) : Type 0 where
  pub parts : EnvironmentParts
  pub has_environment : environment_file environment ≡ Ok parts
  pub truth : Bool
  pub says : TextSays parts text (Some truth)
  pub is_number : number ≡ truth_number truth

-- why there is no truth of the bytes: they aren't UTF-8, are no marker, or are one that is undefined there
pub data RefusesMarker (e : EnvironmentParts) (bytes : List ℕ) (fault : Fault) : Type 0 where
  marker_not_utf8 : ¬ IsUtf8 bytes → fault ≡ first_line line_fault.NotUtf8 → RefusesMarker e bytes fault
  no_marker : (f : MarkerFault) → IsNoMarker bytes f → fault ≡ marker_fault f → RefusesMarker e bytes fault
  undefined_marker : TextSays e bytes undefined → fault ≡ first_line line_fault.Undefined →
      RefusesMarker e bytes fault

-- .. or the environment is refused
pub data RefusesJudging (environment text : List ℕ) (fault : Fault) : Type 0 where
  no_environment : fault.place ≡ place.Environment → environment_file environment ≡ Err fault.cause →
      RefusesJudging environment text fault
  no_truth : (e : EnvironmentParts) → environment_file environment ≡ Ok e → RefusesMarker e text fault →
      RefusesJudging environment text fault
