-- Lack of memory as a fault.
use Rattle.faults.specs.declared.fault.Cause.TheVariants as cause
use Rattle.faults.specs.declared.fault.Fault.{Fault}
use Rattle.faults.specs.declared.fault.Place.TheVariants as place

-- lack of memory, which has no place
abbrev pub no_memory : Fault
no_memory = record { place = place.Nowhere; cause = cause.NoMemory }
