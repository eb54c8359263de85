-- Markers by their texts: what a text says in an environment as a marker.
use Rattle.std.specs.Prelude.{◌≡◌, ℕ, ◌⊎◌, List, Option, Some, None, ⊤, string_bytes}
use Rattle.pep_marker.specs.Environment.{EnvironmentParts}
use Rattle.pep_marker.specs.Holds.{Evaluates, Truth, undefined}
use Rattle.pep_marker.specs.Marker.{IsMarker, IsNoMarker, MarkerParts}
use Rattle.pep_marker.specs.declared.fault.MarkerFault.{MarkerFault}
use Rattle.pep_marker.specs.declared.fault.MarkerFault.TheVariants.{NoMemory, Undefined}
use Rattle.pep_marker.specs.declared.judged.Judged.{Judged}

-- the text is a marker, of which this is the truth in the environment
abbrev pub TextSays : EnvironmentParts → List ℕ → Truth → Type 0
TextSays e x truth = (m : MarkerParts) × IsMarker x m × Evaluates e m truth

-- why there is no truth: the marker is undefined in the environment, or the text is none; where
-- memory runs out, nothing is known
abbrev pub RefusesText : EnvironmentParts → List ℕ → MarkerFault → Type 0
RefusesText e x f =
    (f ≡ NoMemory)
    ⊎ (((f ≡ Undefined) × TextSays e x undefined)
    ⊎ IsNoMarker x f)

-- what is remembered of a text is what it says
abbrev pub IsRemembered : EnvironmentParts → Option Judged → Type 0
IsRemembered e None = ⊤
IsRemembered e (Some judged) = TextSays e (string_bytes judged.text) (Some judged.truth)
