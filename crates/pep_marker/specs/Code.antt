-- The codes of faults of names, environments and markers.
use Rattle.std.specs.Prelude.{ℕ}
use Rattle.pep_marker.specs.declared.fault.MarkerFault.{MarkerFault}
use Rattle.pep_marker.specs.declared.fault.MarkerFault.TheVariants as fault

-- the code of each fault
abbrev pub marker_code : MarkerFault → ℕ
marker_code fault.BadName = 21
marker_code fault.UnknownVariable = 22
marker_code (fault.MissingVariable v) = 23
marker_code fault.RepeatedVariable = 24
marker_code fault.BadValue = 25
marker_code fault.BadMarker = 26
marker_code fault.TooDeep = 27
marker_code fault.Undefined = 28
marker_code fault.NoMemory = 29
