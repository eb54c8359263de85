-- The code that tells a fault.
use Rattle.std.specs.Prelude.{ℕ}
use Rattle.pep_version.specs.declared.fault.VersionFault.{VersionFault}
use Rattle.pep_version.specs.declared.fault.VersionFault.TheVariants.{NotAVersion, NumberTooLarge}
use Rattle.pep_version.specs.declared.fault.VersionFault.TheVariants.{NoMemory}

-- each fault of a version has a code of its own
abbrev pub version_code : VersionFault → ℕ
version_code NotAVersion = 1
version_code NumberTooLarge = 2
version_code NoMemory = 3
