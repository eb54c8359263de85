-- Versions that are an epoch and a release, and nothing more.
use Rattle.std.proofs.Common.{ℕ, ◌<◌, List, length}
use Rattle.std.specs.List.{AllByRecursion}
use Rattle.pep_version.specs.Version.{Fits, IsVersion, Version}
use Rattle.specifiers.specs.Clause.{prefix_of}
use Rattle.specifiers.specs.Clause.{final_version}

-- an epoch and a release whose numbers fit are a version
pub IsVersion-release : (epoch : ℕ) (release : List ℕ) → Fits epoch → 0 < length release →
    AllByRecursion Fits release
    → IsVersion (final_version (record { epoch = epoch; release = release }))
IsVersion-release epoch release e some fits = record {
  release = some;
  label = tt;
  numbers = record { epoch = e; release = fits; pre = tt; post = tt; dev = tt; label = tt };
}

-- a prefix of a version is one
pub IsVersion-prefix_of : (v : Version) → IsVersion v → IsVersion (final_version (prefix_of v))
IsVersion-prefix_of v h =
    IsVersion-release v.epoch v.release h.numbers.epoch h.release h.numbers.release
