-- What reading a text answers, from what reading its slices answers.
use Rattle.std.proofs.Common.{◌≡◌, ℕ, true, false, List, Result, Ok, Err, sym, subst}
use Rattle.std.specs.Str.{str_to_ascii_lowercase}
use Rattle.pep_version.specs.declared.fault.VersionFault.{VersionFault}
use Rattle.pep_version.specs.declared.fault.VersionFault.TheVariants.{NotAVersion, NumberTooLarge}
use Rattle.pep_version.specs.declared.fault.VersionFault.TheVariants.{NoMemory}
use Rattle.pep_version.specs.declared.slices.Slices.{Slices}
use Rattle.pep_version.specs.Way.Slices.{AreReadable, left_runs, version_of_slices}
use Rattle.pep_version.specs.Way.Reading.{passes, read_version}
use Rattle.pep_version.specs.Way.Segments.{VersionOf}
use Rattle.pep_version.specs.Spelling.{Reads, SpellsAny}
use Rattle.texts.specs.Space.{trimmed}
use Rattle.pep_version.specs.Version.{IsVersion, NumbersFit, Version}
use Rattle.pep_version.proofs.OneVersion.{one-version, spelled-passes}
use Rattle.pep_version.proofs.SpelledLaws.{runs-segments, some-part}
use Rattle.pep_version.proofs.Sound.{read-spelled}

-- the slices of a text write a version, where their numbers fit
pub slices-version : (c : Slices) → AreReadable c → NumbersFit (version_of_slices c) →
    IsVersion (version_of_slices c)
slices-version c is fits =
    record {
      release = some-part c.release.now;
      label = runs-segments (left_runs c.label) is.label;
      numbers = fits;
    }

-- ---- the answer for the text

-- a text that passes spells the version that is read, and no other
pub reads-passed : (text : List ℕ) (r : Result Version VersionFault) →
    passes (str_to_ascii_lowercase (trimmed text)) ≡ true
    → VersionOf (read_version (str_to_ascii_lowercase (trimmed text))) r → Reads text r
reads-passed text (Ok v) h answer =
    let spells : SpellsAny text v = subst (SpellsAny text) (sym answer.0) (read-spelled text h) in
    let fits : NumbersFit v = subst NumbersFit (sym answer.0) answer.1 in
    ((spells, fits), λ w other. one-version text w v other spells)
reads-passed text (Err NotAVersion) h answer = absurd answer
reads-passed text (Err NumberTooLarge) h answer =
    let spells = read-spelled text h in (
      (read_version (str_to_ascii_lowercase (trimmed text)), spells),
      λ w other. answer (subst NumbersFit (one-version text w
          (read_version (str_to_ascii_lowercase (trimmed text))) other.0 spells) other.1),
    )
reads-passed text (Err NoMemory) h answer = tt

-- a text that does not pass spells none
pub reads-refused : (text : List ℕ) → passes (str_to_ascii_lowercase (trimmed text)) ≡ false →
    (v : Version) → ¬ SpellsAny text v
reads-refused text h v s = cc (spelled-passes text v s, h)
