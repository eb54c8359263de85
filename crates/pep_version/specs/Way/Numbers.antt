-- The numbers of a release as they are read, part by part.
use Rattle.std.specs.Prelude.{◌≡◌, ℕ, List, Result, Ok, Err, Vec, ⊤}
use Rattle.std.specs.List.{AllByRecursion}
use Rattle.std.specs.declared.alloc.Global.{Global}
use Rattle.pep_version.specs.declared.fault.VersionFault.{VersionFault}
use Rattle.pep_version.specs.declared.fault.VersionFault.TheVariants.{NotAVersion, NumberTooLarge}
use Rattle.pep_version.specs.declared.fault.VersionFault.TheVariants.{NoMemory}
use Rattle.pep_version.specs.Version.{Fits}

-- the answer is these numbers; or one of them is too large
abbrev pub NumbersOf : List ℕ → Result (Vec ℕ Global) VersionFault → Type 0
NumbersOf values (Ok numbers) = (numbers.items ≡ values) × AllByRecursion Fits values
NumbersOf values (Err NumberTooLarge) = ¬ AllByRecursion Fits values
NumbersOf values (Err NotAVersion) = ⊥
NumbersOf values (Err NoMemory) = ⊤
