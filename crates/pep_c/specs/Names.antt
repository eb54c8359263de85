-- What is said of names that come in as bytes.
use Rattle.std.specs.Prelude.{◌≡◌, ℕ, ◌⊎◌, List, None, IsUtf8}
use Rattle.pep_marker.specs.Name.{name_of}
use Rattle.pep_marker.specs.declared.fault.MarkerFault.TheVariants as marker_fault
use Rattle.faults.specs.InnerFault.{fault_of_argument}
use Rattle.faults.specs.declared.fault.ArgumentFault.TheVariants as argument
use Rattle.faults.specs.declared.fault.Fault.{Fault}

-- the bytes are no name
pub record IsNoName (bytes : List ℕ) (fault : Fault) : Type 0 where
  pub none : ¬ IsUtf8 bytes ⊎ (name_of bytes ≡ None)
  pub is : fault ≡ fault_of_argument (argument.Name marker_fault.BadName)
