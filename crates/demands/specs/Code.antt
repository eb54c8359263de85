-- The codes of faults of tables.
use Rattle.std.specs.Prelude.{ℕ}
use Rattle.demands.specs.declared.fault.TableFault.{TableFault}
use Rattle.demands.specs.declared.fault.TableFault.TheVariants.{Undefined, BadTable, NoMemory}
use Rattle.demands.specs.declared.fault.TableFault.TheVariants.{OtherEnvironment}

abbrev pub table_code : TableFault → ℕ
table_code (Undefined n) = 28
table_code (BadTable n) = 41
table_code (OtherEnvironment n) = 43
table_code NoMemory = 42
