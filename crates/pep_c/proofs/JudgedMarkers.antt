-- Why there is no truth of a marker.
use Rattle.std.proofs.Common.{◌≡◌, ◌⊎◌, ℕ, List, inl, inr, refl}
use Rattle.pep_marker.specs.Environment.{EnvironmentParts}
use Rattle.pep_marker.specs.Judged.{RefusesText}
use Rattle.pep_marker.specs.declared.fault.MarkerFault.{MarkerFault}
use Rattle.faults.specs.NoMemory.{no_memory}
use Rattle.pep_c.specs.Judging.{RefusesMarker, marker_fault, no_marker, undefined_marker}

pub refused_marker : (e : EnvironmentParts) (text : List ℕ) (f : MarkerFault) → RefusesText e text f →
    (marker_fault f ≡ no_memory) ⊎ RefusesMarker e text (marker_fault f)
refused_marker e text f (inl memory) = inl (rw memory refl)
refused_marker e text f (inr (inl (undefined, says))) = inr (undefined_marker says (rw undefined refl))
refused_marker e text f (inr (inr none)) = inr (no_marker f none refl)
