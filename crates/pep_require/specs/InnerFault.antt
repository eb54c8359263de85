-- The fault of a line for a fault inside it. Lack of memory is the line's own.
use Rattle.specifiers.specs.declared.fault.ClauseFault.{ClauseFault}
use Rattle.specifiers.specs.declared.fault.ClauseFault.TheVariants as clause
use Rattle.pep_marker.specs.declared.fault.MarkerFault.{MarkerFault}
use Rattle.pep_marker.specs.declared.fault.MarkerFault.TheVariants as marker
use Rattle.pep_require.specs.declared.fault.RequireFault.{RequireFault}
use Rattle.pep_require.specs.declared.fault.RequireFault.TheVariants as require

-- of a line one of whose clauses is refused
abbrev pub fault_of_clause : ClauseFault → RequireFault
fault_of_clause clause.NoMemory = require.NoMemory
fault_of_clause f = require.BadClause f

-- of a line whose name or marker is refused
abbrev pub fault_of_marker : MarkerFault → RequireFault
fault_of_marker marker.BadName = require.BadName
fault_of_marker marker.NoMemory = require.NoMemory
fault_of_marker f = require.BadMarker f
