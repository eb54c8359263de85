-- The codes of faults of requirement lines.
use Rattle.std.specs.Prelude.{◌≡◌, ◌⊎◌, ℕ, Option, Some, None}
use Rattle.specifiers.specs.Code.{clause_code}
use Rattle.pep_marker.specs.Code.{marker_code}
use Rattle.pep_require.specs.declared.fault.RequireFault.{RequireFault}
use Rattle.pep_require.specs.declared.fault.RequireFault.TheVariants as fault

-- the code of each fault
abbrev pub require_code : RequireFault → ℕ
require_code fault.BadName = 31
require_code fault.BadExtras = 32
require_code (fault.BadClause f) = 33
require_code fault.BadUrl = 34
require_code (fault.BadMarker f) = 35
require_code fault.Trailing = 36
require_code fault.OptionLine = 37
require_code fault.LineTooLong = 38
require_code fault.UrlOverflow = 39
require_code fault.NoMemory = 40

-- the code of the fault inside it, if there is one
abbrev pub require_inner_code : RequireFault → Option ℕ
require_inner_code (fault.BadClause f) = Some (clause_code f)
require_inner_code (fault.BadMarker f) = Some (marker_code f)
require_inner_code _ = None

-- The same fault, or both are of a marker. Which of its two faults a marker has, isn't told.
abbrev pub IsSameFault : RequireFault → RequireFault → Type 0
IsSameFault f g = (f ≡ g) ⊎ ((require_code f ≡ 35) × (require_code g ≡ 35))
