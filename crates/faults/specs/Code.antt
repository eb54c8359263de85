-- The codes of faults of inputs and of the program.
use Rattle.std.specs.Prelude.{ℕ, List, [], ◌∷◌, Option, None, option_to_list}
use Rattle.pep_version.specs.Code.{version_code}
use Rattle.pep_marker.specs.Code.{marker_code}
use Rattle.pep_require.specs.Code.{require_code, require_inner_code}
use Rattle.faults.specs.declared.fault.ArgumentFault.{ArgumentFault}
use Rattle.faults.specs.declared.fault.ArgumentFault.TheVariants as argument
use Rattle.faults.specs.declared.fault.Cause.{Cause}
use Rattle.faults.specs.declared.fault.Cause.TheVariants as cause
use Rattle.faults.specs.declared.fault.LineFault.{LineFault}
use Rattle.faults.specs.declared.fault.LineFault.TheVariants.{Requirement, NotUtf8, Undefined, BadTable}
use Rattle.faults.specs.declared.fault.LineFault.TheVariants.{OtherEnvironment}

-- the code of a fault of a line
abbrev pub line_code : LineFault → ℕ
line_code (Requirement f) = require_code f
line_code NotUtf8 = 51
line_code Undefined = 28
line_code BadTable = 41
line_code OtherEnvironment = 43

-- the code of the fault inside it, if there is one
abbrev pub line_inner_code : LineFault → Option ℕ
line_inner_code (Requirement f) = require_inner_code f
line_inner_code _ = None

-- the code of a fault of an argument
abbrev pub argument_code : ArgumentFault → ℕ
argument_code (argument.Version f) = version_code f
argument_code (argument.Name f) = marker_code f

-- the code of a cause
abbrev pub cause_code : Cause → ℕ
cause_code cause.NotUtf8 = 51
cause_code cause.NotToml = 52
cause_code cause.NoProject = 53
cause_code cause.Dynamic = 54
cause_code cause.WrongShape = 55
cause_code cause.TooLarge = 56
cause_code (cause.Line n f) = 57
cause_code cause.ReadFault = 58
cause_code (cause.BadEnvironment f) = 59
cause_code cause.NoMemory = 60
cause_code (cause.BadWords x) = 61
cause_code (cause.BadArgument f) = 62
cause_code cause.WriteFault = 63
cause_code cause.NoRequirements = 64
cause_code cause.NoGroup = 65
cause_code cause.EqualGroups = 66
cause_code cause.GroupCycle = 67

-- the codes of the faults inside it, the outer one first
abbrev pub inner_codes : Cause → List ℕ
inner_codes (cause.Line n f) = line_code f ∷ option_to_list (line_inner_code f)
inner_codes (cause.BadEnvironment f) = marker_code f ∷ []
inner_codes (cause.BadArgument f) = argument_code f ∷ []
inner_codes _ = []
