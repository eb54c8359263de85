-- What is said of a requirement that comes in as bytes.
use Rattle.std.specs.Prelude.{◌≡◌, ◌≢◌, ℕ, List, IsUtf8}
use Rattle.pep_require.specs.LineParts.{RefusesLine}
use Rattle.pep_require.specs.Reads.{Reads}
use Rattle.pep_require.specs.Requirement.{RequirementParts}
use Rattle.pep_require.specs.RequirementText.{requirement_text}
use Rattle.pep_require.specs.declared.fault.RequireFault.{RequireFault}
use Rattle.pep_require.specs.declared.fault.RequireFault.TheVariants as require
use Rattle.faults.specs.declared.fault.Fault.{Fault}
use Rattle.faults.specs.declared.fault.LineFault.TheVariants as line_fault
use Rattle.pep_c.specs.FirstLine.{first_line}

-- the text is the normal text of the requirement that the bytes are (PEP 508, "Grammar")
pub record IsRequirementText (bytes text : List ℕ) : Type 0 where
  pub requirement : RequirementParts
  pub reads : Reads bytes requirement
  pub is_text : text ≡ requirement_text requirement

-- the bytes are no requirement: they aren't UTF-8, or one of their parts is faulty
pub data RefusesRequirement (bytes : List ℕ) (fault : Fault) : Type 0 where
  requirement_not_utf8 : ¬ IsUtf8 bytes → fault ≡ first_line line_fault.NotUtf8 → RefusesRequirement bytes fault
  faulty_requirement : IsUtf8 bytes → (reason : RequireFault) → reason ≢ require.NoMemory → RefusesLine bytes reason →
      fault ≡ first_line (line_fault.Requirement reason) →
      RefusesRequirement bytes fault
