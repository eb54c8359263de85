-- Why a text that stands alone is refused.
use Rattle.std.proofs.Common.{◌≡◌, ◌⊎◌, ℕ, List, Err, inl, inr, refl}
use Rattle.std.specs.Str.{IsUtf8}
use Rattle.specifiers.specs.Clause.{ReadsClause}
use Rattle.specifiers.specs.declared.fault.ClauseFault.{ClauseFault}
use Rattle.specifiers.specs.declared.fault.ClauseFault.TheVariants as clause_fault
use Rattle.pep_require.specs.InnerFault.{fault_of_clause}
use Rattle.pep_require.specs.LineParts.{RefusesLine}
use Rattle.pep_require.specs.declared.fault.RequireFault.{RequireFault}
use Rattle.pep_require.specs.declared.fault.RequireFault.TheVariants as require
use Rattle.pep_version.specs.Spelling.{Reads}
use Rattle.pep_version.specs.declared.fault.VersionFault.{VersionFault}
use Rattle.pep_version.specs.declared.fault.VersionFault.TheVariants as version_fault
use Rattle.faults.specs.InnerFault.{fault_of_argument}
use Rattle.faults.specs.NoMemory.{no_memory}
use Rattle.faults.specs.declared.fault.ArgumentFault.TheVariants as argument
use Rattle.pep_c.specs.FirstLine.{refused_line}
use Rattle.pep_c.specs.Requirements.{RefusesRequirement, faulty_requirement}
use Rattle.pep_c.specs.Versions.{IsNoClause, RefusesVersion, faulty_clause, no_version}

-- a text that is read as no version
pub refused_version : (text : List ℕ) (reason : VersionFault) → Reads text (Err reason) →
    (fault_of_argument (argument.Version reason) ≡ no_memory)
    ⊎ RefusesVersion text (fault_of_argument (argument.Version reason))
refused_version text version_fault.NoMemory h = inl refl
refused_version text reason h = inr (no_version reason (λ e. cc e) h refl)

-- a text that is read as no clause
pub refused_clause : (text : List ℕ) → IsUtf8 text → (reason : ClauseFault) → ReadsClause text (Err reason) →
    (refused_line (fault_of_clause reason) ≡ no_memory)
    ⊎ IsNoClause text (refused_line (fault_of_clause reason))
refused_clause text u clause_fault.NoMemory h = inl refl
refused_clause text u reason h = inr (faulty_clause u reason (λ e. cc e) h refl)

-- a text that is no requirement
pub refused_requirement : (text : List ℕ) → IsUtf8 text → (reason : RequireFault) → RefusesLine text reason →
    (refused_line reason ≡ no_memory) ⊎ RefusesRequirement text (refused_line reason)
refused_requirement text u require.NoMemory h = inl refl
refused_requirement text u reason h = inr (faulty_requirement u reason (λ e. cc e) h refl)
