-- The bytes of a key: six parts, one behind the other, for the six steps in which the order of versions
-- compares them. Byte order is the order of versions (`KeysKeepOrder`).
use Rattle.std.specs.Prelude.{◌≡◌, ◌↔◌, ℕ, List, [], ◌∷◌, ◌++◌, Option, Some, None}
use Rattle.std.specs.Int.{w64, to_be_bytes}
use Rattle.std.specs.Cmp.Lexicographic.{slice_cmp}
use Rattle.std.specs.Option.{option_cmp}
use Rattle.std.specs.Ordering.{nat_cmp, on, then_cmp}
use Rattle.pep_version.specs.ByteOrder.{KeepsOrder, ended}
use Rattle.pep_version.specs.Order.{dev_cmp, place_of, pre_number, release_cmp, segment_cmp, stage, version_cmp, without_end_zeros}
use Rattle.pep_version.specs.Version.{IsVersion, Segment, number, Version, word}
use Rattle.pep_version.specs.declared.parts.Phase.{Phase}
use Rattle.pep_version.specs.declared.parts.Phase.TheVariants.{Alpha, Beta, Rc}

-- ---- numbers

-- eight bytes, the most significant first
abbrev pub number_bytes : ℕ → List ℕ
number_bytes n = to_be_bytes w64 n

-- ---- the parts of a key

-- 0x20, 0x30, 0x40 for alpha, beta, release candidate
abbrev pub phase_byte : Phase → ℕ
phase_byte Alpha = 0x20
phase_byte Beta = 0x30
phase_byte Rc = 0x40

abbrev pub epoch_bytes : Version → List ℕ
epoch_bytes v = number_bytes v.epoch

-- each number behind a byte 1, without the zeros at the end, and then 0
abbrev pub release_number_bytes : ℕ → List ℕ
release_number_bytes n = 1 ∷ number_bytes n

abbrev pub release_bytes : Version → List ℕ
release_bytes v = ended release_number_bytes (without_end_zeros v.release)

-- 0x10 for a developmental release of the release itself; the phase and the number of a pre-release; 0x50 for
-- the release and its post-releases
abbrev pub stage_bytes_of : Option (Phase × ℕ) → Option ℕ → Option ℕ → List ℕ
stage_bytes_of (Some p) post dev = phase_byte p.0 ∷ number_bytes p.1
stage_bytes_of None None (Some n) = 0x10 ∷ []
stage_bytes_of None None None = 0x50 ∷ []
stage_bytes_of None (Some n) dev = 0x50 ∷ []

abbrev pub stage_bytes : Version → List ℕ
stage_bytes v = stage_bytes_of v.pre v.post v.dev

-- a byte for a part that is absent, or another one and the number behind it
abbrev pub marked_bytes : ℕ → ℕ → Option ℕ → List ℕ
marked_bytes absent present None = absent ∷ []
marked_bytes absent present (Some n) = present ∷ number_bytes n

-- no post-release part is below any
abbrev pub post_bytes : Option ℕ → List ℕ
post_bytes post = marked_bytes 0 1 post

-- no developmental release part is above any
abbrev pub dev_bytes : Option ℕ → List ℕ
dev_bytes dev = marked_bytes 1 0 dev

-- a word is its bytes and then 0, and below a number
abbrev pub segment_bytes : Segment → List ℕ
segment_bytes (word letters) = 1 ∷ ended (λ b. b ∷ []) letters
segment_bytes (number n) = 2 ∷ number_bytes n

-- the segments one behind the other and then 0, behind a byte that says whether there are any
abbrev pub label_bytes : List Segment → List ℕ
label_bytes [] = 0 ∷ []
label_bytes (x ∷ xs) = 1 ∷ ended segment_bytes (x ∷ xs)

-- the place of a release: epoch and release
abbrev pub place_bytes : Version → List ℕ
place_bytes v = epoch_bytes v ++ release_bytes v

-- the place within one release
abbrev pub suffix_bytes : Version → List ℕ
suffix_bytes v = stage_bytes v ++ (post_bytes v.post ++ (dev_bytes v.dev ++ label_bytes v.label))

-- the key of a version
abbrev pub key_bytes : Version → List ℕ
key_bytes v = place_bytes v ++ suffix_bytes v

-- ---- what the bytes are for

-- Each part keeps its step of the order of versions, and in no part does one value's bytes begin another's.
pub record PartsKeepOrder : Type 0 where
  pub epoch : KeepsOrder IsVersion (on (λ v. v.epoch) nat_cmp) epoch_bytes
  pub release : KeepsOrder IsVersion (on (λ v. v.release) release_cmp) release_bytes
  pub stage : KeepsOrder IsVersion (then_cmp (on stage nat_cmp) (on pre_number nat_cmp)) stage_bytes
  pub post : KeepsOrder IsVersion (on (λ v. v.post) (option_cmp nat_cmp)) (λ v. post_bytes v.post)
  pub dev : KeepsOrder IsVersion (on (λ v. v.dev) dev_cmp) (λ v. dev_bytes v.dev)
  pub label : KeepsOrder IsVersion (on (λ v. v.label) (slice_cmp segment_cmp)) (λ v. label_bytes v.label)

-- What keys are for: byte order is the order of versions, no key begins another, and two keys are the same bytes
-- exactly if the two versions have one place.
pub record KeysKeepOrder : Type 0 where
  pub keeps : KeepsOrder IsVersion version_cmp key_bytes
  pub place : (v w : Version) → IsVersion v → IsVersion w → (key_bytes v ≡ key_bytes w) ↔ (place_of v ≡ place_of w)
