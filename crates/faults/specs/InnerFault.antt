-- The fault of the program for a fault of an argument. Lack of memory has no place.
use Rattle.pep_marker.specs.declared.fault.MarkerFault.TheVariants as marker
use Rattle.pep_version.specs.declared.fault.VersionFault.TheVariants as version
use Rattle.faults.specs.declared.fault.ArgumentFault.{ArgumentFault}
use Rattle.faults.specs.declared.fault.ArgumentFault.TheVariants.{Name, Version}
use Rattle.faults.specs.declared.fault.Cause.TheVariants.{BadArgument, NoMemory}
use Rattle.faults.specs.declared.fault.Fault.{Fault}
use Rattle.faults.specs.declared.fault.Place.TheVariants.{Nowhere}

-- of a version or a name on the command line that is refused
abbrev pub fault_of_argument : ArgumentFault → Fault
fault_of_argument (Version version.NoMemory) = record { place = Nowhere; cause = NoMemory }
fault_of_argument (Name marker.NoMemory) = record { place = Nowhere; cause = NoMemory }
fault_of_argument f = record { place = Nowhere; cause = BadArgument f }
