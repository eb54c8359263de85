-- What a contract sees of a text that is compared, and of what two texts say.
use Rattle.std.specs.Prelude.{◌≡◌, ℕ, Bool, List, None, Option, Some}
use Rattle.pep_version.specs.Version.{Version}
use Rattle.specifiers.specs.Admits.{admits}
use Rattle.specifiers.specs.Clause.{Clause}
use Rattle.specifiers.specs.declared.op.Op.{Op}
use Rattle.pep_marker.specs.Holds.{ComparesVersions}
use Rattle.pep_marker.specs.declared.compared_text.ComparedText.{ComparedText}
use Rattle.pep_marker.specs.declared.compared_text.ComparedText.TheVariants.{Written, Known}

abbrev pub compared_bytes : ComparedText → List ℕ
compared_bytes (Written text) = text.now
compared_bytes (Known value) = value.now

-- what two texts say that are compared as versions; nothing where they aren't
abbrev pub VersionsSay : Op → List ℕ → List ℕ → Option Bool → Type 0
VersionsSay o l r None = (c : Clause) (v : Version) → ¬ ComparesVersions o l r c v
VersionsSay o l r (Some b) =
    (c : Clause) × (v : Version) × ComparesVersions o l r c v × (b ≡ admits c v)
