-- Answers with a fault, handed on.
use Rattle.std.proofs.Common.{Err}
use Rattle.pep_version.specs.declared.fault.VersionFault.{VersionFault}
use Rattle.pep_version.specs.declared.fault.VersionFault.TheVariants.{NotAVersion, NumberTooLarge}
use Rattle.pep_version.specs.declared.fault.VersionFault.TheVariants.{NoMemory}
use Rattle.pep_version.specs.Way.Segments.{Answers}

-- what does not fit in a part does not fit in the whole
pub handed : {A B : Type 0} (P : A → Type 0) (Q : B →
    Type 0) (part whole : Type 0) (e : VersionFault) → (whole → part) → Answers P part (Err e) →
    Answers Q whole (Err e)
handed P Q part whole NotAVersion w h = absurd h
handed P Q part whole NumberTooLarge w h = λ fits. h (w fits)
handed P Q part whole NoMemory w h = tt
