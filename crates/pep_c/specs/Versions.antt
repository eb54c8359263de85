-- What is said of versions and clauses that come in as bytes.
use Rattle.std.specs.Prelude.{◌≡◌, ◌≢◌, ℕ, Bool, true, false, List, Ok, Err, IsUtf8}
use Rattle.std.specs.Prelude.{ℤ, pos, negsuc}
use Rattle.std.specs.declared.cmp.Ordering.{Ordering}
use Rattle.std.specs.declared.cmp.Ordering.TheVariants as ordering
use Rattle.pep_version.specs.Order.{version_cmp}
use Rattle.pep_version.specs.Spelling.{Reads}
use Rattle.pep_version.specs.Text.{normal_text}
use Rattle.pep_version.specs.Version.{Version}
use Rattle.pep_version.specs.declared.fault.VersionFault.{VersionFault}
use Rattle.pep_version.specs.declared.fault.VersionFault.TheVariants as version_fault
use Rattle.specifiers.specs.Admits.{admits}
use Rattle.specifiers.specs.Clause.{Clause, IsClause, ReadsClause}
use Rattle.specifiers.specs.declared.fault.ClauseFault.{ClauseFault}
use Rattle.specifiers.specs.declared.fault.ClauseFault.TheVariants as clause_fault
use Rattle.pep_require.specs.declared.fault.RequireFault.TheVariants as require
use Rattle.faults.specs.InnerFault.{fault_of_argument}
use Rattle.faults.specs.declared.fault.ArgumentFault.TheVariants as argument
use Rattle.faults.specs.declared.fault.Fault.{Fault}
use Rattle.faults.specs.declared.fault.LineFault.TheVariants as line_fault
use Rattle.pep_c.specs.FirstLine.{first_line}

-- the text is the normal text of the version that the bytes spell (PEP 440, "Normalization")
pub record IsVersionText (bytes text : List ℕ) : Type 0 where
  pub version : Version
  pub reads : Reads bytes (Ok version)
  pub is_text : text ≡ normal_text version

-- the bytes spell no version: they aren't UTF-8, or are refused as a version
pub data RefusesVersion (bytes : List ℕ) (fault : Fault) : Type 0 where
  version_not_utf8 : ¬ IsUtf8 bytes →
      fault ≡ fault_of_argument (argument.Version version_fault.NotAVersion)
      → RefusesVersion bytes fault
  no_version : (reason : VersionFault) → reason ≢ version_fault.NoMemory →
      Reads bytes (Err reason) → fault ≡ fault_of_argument (argument.Version reason) →
      RefusesVersion bytes fault

-- ---- the order of two versions

-- an order as a number
abbrev pub order_number : Ordering → ℤ
order_number ordering.Less = negsuc 0
order_number ordering.Equal = pos 0
order_number ordering.Greater = pos 1

-- the number is the order of the versions that the two spell (PEP 440, "Summary of permitted
-- suffixes and relative ordering")
pub record IsOrder (first second : List ℕ) (number : ℤ) : Type 0 where
  pub left : Version
  pub reads_left : Reads first (Ok left)
  pub right : Version
  pub reads_right : Reads second (Ok right)
  pub is_order : number ≡ order_number (version_cmp left right)

-- why two versions are not compared: the first is none, or else the second
pub data RefusesOrder (first second : List ℕ) (fault : Fault) : Type 0 where
  by_first : RefusesVersion first fault → RefusesOrder first second fault
  by_second : (left : Version) → Reads first (Ok left) → RefusesVersion second fault →
      RefusesOrder first second fault

-- ---- clauses

abbrev pub truth_number : Bool → ℤ
truth_number true = pos 1
truth_number false = pos 0

-- the number is 1 exactly if the clause that the one text writes admits the version that the other
-- spells (PEP 440, "Version specifiers"), and else 0
pub record AdmitsVersion (clause version : List ℕ) (number : ℤ) : Type 0 where
  pub read_clause : Clause
  pub is_clause : IsClause clause read_clause
  pub read_version : Version
  pub reads : Reads version (Ok read_version)
  pub says : number ≡ truth_number (admits read_clause read_version)

-- the bytes write no clause: they aren't UTF-8, or fail one of the checks of PEP 440
pub data IsNoClause (bytes : List ℕ) (fault : Fault) : Type 0 where
  clause_not_utf8 : ¬ IsUtf8 bytes → fault ≡ first_line line_fault.NotUtf8 → IsNoClause bytes fault
  faulty_clause : IsUtf8 bytes → (reason : ClauseFault) → reason ≢ clause_fault.NoMemory →
      ReadsClause bytes (Err reason)
      → fault ≡ first_line (line_fault.Requirement (require.BadClause reason)) →
      IsNoClause bytes fault

-- why a clause is not asked: it is none, or else the version is none
pub data RefusesClause (clause version : List ℕ) (fault : Fault) : Type 0 where
  by_clause : IsNoClause clause fault → RefusesClause clause version fault
  by_version : (c : Clause) → IsClause clause c → RefusesVersion version fault →
      RefusesClause clause version fault
