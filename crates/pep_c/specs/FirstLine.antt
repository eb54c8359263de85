-- The fault of a text that stands alone.
use Rattle.pep_require.specs.declared.fault.RequireFault.{RequireFault}
use Rattle.pep_require.specs.declared.fault.RequireFault.TheVariants as require
use Rattle.faults.specs.NoMemory.{no_memory}
use Rattle.faults.specs.declared.fault.Cause.TheVariants as cause
use Rattle.faults.specs.declared.fault.Fault.{Fault}
use Rattle.faults.specs.declared.fault.LineFault.{LineFault}
use Rattle.faults.specs.declared.fault.LineFault.TheVariants as line_fault
use Rattle.faults.specs.declared.fault.Place.TheVariants as place

-- it is told as that of the first line of the first input
abbrev pub first_line : LineFault → Fault
first_line f = record { place = place.Input 1; cause = cause.Line 1 f }

-- .. and lack of memory without a place
abbrev pub refused_line : RequireFault → Fault
refused_line require.NoMemory = no_memory
refused_line f = first_line (line_fault.Requirement f)
