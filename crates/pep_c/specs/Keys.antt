-- Keys and parts of versions that come in as bytes.
use Rattle.std.specs.Prelude.{◌≡◌, ℕ, ◌==◌, ◌⊎◌, List, [], ◌∷◌, ◌++◌, map, length, Option, Some, None, Ok}
use Rattle.std.specs.Int.{w64, to_be_bytes}
use Rattle.std.specs.List.{AllZip, concat, slice_split}
use Rattle.pep_version.specs.KeyBytes.{key_bytes}
use Rattle.pep_version.specs.Order.{place_of}
use Rattle.pep_version.specs.Spelling.{Reads}
use Rattle.pep_version.specs.Version.{Version}
use Rattle.pep_version.specs.declared.parts.Phase.{Phase}
use Rattle.pep_version.specs.declared.parts.Phase.TheVariants.{Alpha, Beta, Rc}
use Rattle.faults.specs.declared.fault.Fault.{Fault}
use Rattle.pep_c.specs.Versions.{RefusesVersion}

-- ---- keys

-- the bytes are the key of the version that the text spells: byte order of keys is the order of versions
pub record IsKeyOf (text key : List ℕ) : Type 0 where
  pub version : Version
  pub reads : Reads text (Ok version)
  pub is_key : key ≡ key_bytes (place_of version)

-- .. and none where it spells no version
abbrev pub IsKeyIfVersion : List ℕ → List ℕ → Type 0
IsKeyIfVersion text key =
    IsKeyOf text key ⊎ ((key ≡ []) × (fault : Fault) × RefusesVersion text fault)

-- a key behind its length, which has eight bytes, the most significant first
abbrev pub framed : List ℕ → List ℕ
framed key = to_be_bytes w64 (length key) ++ key

-- the bytes are the keys of the texts between zero bytes, in turn
pub record AreKeys (texts bytes : List ℕ) : Type 0 where
  pub keys : List (List ℕ)
  pub each : AllZip IsKeyIfVersion (slice_split (λ b. b == 0) texts) keys
  pub whole : bytes ≡ concat (map framed keys)

-- ---- parts

-- 1, 2 or 3 for `a`, `b` and `rc`
abbrev pub phase_number : Phase → ℕ
phase_number Alpha = 1
phase_number Beta = 2
phase_number Rc = 3

-- the phase of a pre-release and its number; 0 and 0 for none
abbrev pub pre_numbers : Option (Phase × ℕ) → List ℕ
pre_numbers None = 0 ∷ 0 ∷ []
pre_numbers (Some p) = phase_number p.0 ∷ p.1 ∷ []

-- 1 and the number; 0 and 0 for none
abbrev pub part_numbers : Option ℕ → List ℕ
part_numbers None = 0 ∷ 0 ∷ []
part_numbers (Some n) = 1 ∷ n ∷ []

-- the epoch, the pre-release, the post-release, the developmental release, and then the release with the zeros
-- at its end
abbrev pub version_numbers : Version → List ℕ
version_numbers v =
    v.epoch ∷ pre_numbers v.pre ++ part_numbers v.post ++ part_numbers v.dev ++ v.release

-- the numbers are those of the version that the text spells
pub record AreNumbersOf (text numbers : List ℕ) : Type 0 where
  pub version : Version
  pub reads : Reads text (Ok version)
  pub are_numbers : numbers ≡ version_numbers version
