-- The codes of faults.
use Rattle.std.specs.Prelude.{ℕ}
use Rattle.specifiers.specs.declared.fault.ClauseFault.{ClauseFault}
use Rattle.specifiers.specs.declared.fault.ClauseFault.TheVariants as clause

-- the code of a fault of a clause
abbrev pub clause_code : ClauseFault → ℕ
clause_code clause.NoOperator = 11
clause_code clause.BadVersion = 12
clause_code clause.StarNotAllowed = 13
clause_code clause.LocalNotAllowed = 14
clause_code clause.OneNumber = 15
clause_code clause.NumberTooLarge = 16
clause_code clause.NoMemory = 17
