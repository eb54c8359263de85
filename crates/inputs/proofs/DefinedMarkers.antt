-- Markers of requirements that are defined in an environment, or undefined.
use Rattle.std.proofs.Common.{◌≡◌, ◌∙◌, ℕ, List, Option, Some, None, subst, sym}
use Rattle.std.specs.Prelude.{All}
use Rattle.std.proofs.lemmas.List.Elements.{All-contains}
use Rattle.pep_marker.proofs.MarkerTruth.{evaluates_one}
use Rattle.pep_marker.specs.Environment.{EnvironmentParts, extra_in}
use Rattle.pep_marker.specs.Holds.{Truth, undefined}
use Rattle.pep_marker.specs.Marker.{MarkerParts}
use Rattle.pep_require.specs.Requirement.{HasDefinedMarker, HasUndefinedMarker, MarkerSays}
use Rattle.pep_require.specs.Requirement.{RequirementParts}
use Rattle.faults.specs.declared.fault.Cause.{Cause}
use Rattle.documents.specs.ProjectRequirements.{IsProjectOf}
use Rattle.documents.proofs.Projects.{one_project}
use Rattle.documents.proofs.ReadTexts.{numbered_in}
use Rattle.inputs.specs.Refusal.{IsUndefinedProject}

marker_one : (e : EnvironmentParts) (m : Option MarkerParts) (p q : Truth) → MarkerSays e m p →
    MarkerSays e m q → p ≡ q
marker_one e None p q h g = h ∙ sym g
marker_one e (Some m) p q h g = evaluates_one e m p q h g

pub both_markers : (e : EnvironmentParts) (r : RequirementParts) → HasDefinedMarker e r →
    HasUndefinedMarker e r → ⊥
both_markers e r h g =
    let same : Some h.0 ≡ undefined = marker_one e r.marker (Some h.0) undefined h.1 g in cc same

-- a project file with an undefined marker has none whose markers are all defined
pub undefined_project : (e : EnvironmentParts) (group : Option (List ℕ)) (bytes : List ℕ)
    (c : Cause) (rs : List RequirementParts) → IsUndefinedProject e group bytes c →
    IsProjectOf (extra_in e) group bytes rs → All (HasDefinedMarker e) rs → ⊥
undefined_project e group bytes c rs (qs, is, at) h defined =
    let same : rs ≡ qs = one_project (extra_in e) group bytes rs qs h is in
    both_markers e at.requirement
    (All-contains (HasDefinedMarker e) qs at.requirement
    (subst (All (HasDefinedMarker e)) same defined)
    (numbered_in qs at.number at.requirement at.numbered)) at.undefined
