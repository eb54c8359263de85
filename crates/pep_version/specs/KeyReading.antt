-- The version that a key stands for, read from its bytes. Of bytes that are no key it gives some version.
use Rattle.std.specs.Int.{w64, from_be_bytes}
use Rattle.std.specs.List.{prefix_len}
use Rattle.std.specs.Prelude.{◌≡◌, ◌==◌, ℕ, zero, suc, List, [], ◌∷◌, length, take, drop, Option, Some, None, if◌then◌else◌, nat_lt, not}
use Rattle.pep_version.specs.KeyBytes.{key_bytes}
use Rattle.pep_version.specs.View.{version_with}
use Rattle.pep_version.specs.Version.{IsVersion, Segment, Version, number, word}
use Rattle.pep_version.specs.declared.parts.Phase.{Phase}
use Rattle.pep_version.specs.declared.parts.Phase.TheVariants.{Alpha, Beta, Rc}

-- a value and the bytes behind its code
abbrev pub Reader : Type 0 → Type 0
Reader A = List ℕ → A × List ℕ

-- ---- numbers

abbrev pub read_number : Reader ℕ
read_number bytes = if nat_lt (length bytes) 8 then (0, []) else (from_be_bytes w64 (take 8 bytes), drop 8 bytes)

-- ---- lists, behind each of which stands 0

abbrev pub put_first : {A : Type 0} → A → List A × List ℕ → List A × List ℕ
put_first x r = (x ∷ r.0, r.1)

module _ {A : Type 0} (read : Reader A) where
  -- at most k elements
  abbrev pub read_ended : ℕ → Reader (List A)
  read_ended zero bytes = ([], bytes)
  read_ended (suc k) [] = ([], [])
  read_ended (suc k) (b ∷ rest) =
      if b == 0 then ([], rest) else (λ (p : A × List ℕ). put_first p.0 (read_ended k p.1)) (read (b ∷ rest))

-- ---- the parts

-- how many bytes stand in front of the first 0
abbrev pub word_count : List ℕ → ℕ
word_count bytes = prefix_len (λ b. not (b == 0)) bytes

-- the bytes in front of the first 0, and those behind it
abbrev pub read_word : Reader (List ℕ)
read_word bytes = (take (word_count bytes) bytes, drop 1 (drop (word_count bytes) bytes))

abbrev pub read_map : {A B : Type 0} → (A → B) → A × List ℕ → B × List ℕ
read_map f p = (f p.0, p.1)

-- the release of a place, which has a number
abbrev pub whole_release : List ℕ → List ℕ
whole_release [] = 0 ∷ []
whole_release (n ∷ rest) = n ∷ rest

abbrev pub read_release_number : Reader ℕ
read_release_number bytes = read_number (drop 1 bytes)

-- the numbers of a release, each of which takes a byte at least
abbrev pub read_numbers : Reader (List ℕ)
read_numbers bytes = read_ended read_release_number (length bytes) bytes

abbrev pub read_release : Reader (List ℕ)
read_release bytes = read_map whole_release (read_numbers bytes)

abbrev pub read_phase : Phase → Reader (Option (Phase × ℕ))
read_phase p bytes = read_map (λ n. Some (p, n)) (read_number bytes)

abbrev pub read_stage : Reader (Option (Phase × ℕ))
read_stage [] = (None, [])
read_stage (b ∷ rest) =
    if b == 0x20 then read_phase Alpha rest else (if b == 0x30 then read_phase Beta rest else (if b == 0x40 then read_phase Rc rest else (None, rest)))

abbrev pub read_post : Reader (Option ℕ)
read_post [] = (None, [])
read_post (b ∷ rest) = if b == 0 then (None, rest) else read_map Some (read_number rest)

abbrev pub read_dev : Reader (Option ℕ)
read_dev [] = (None, [])
read_dev (b ∷ rest) = if b == 0 then read_map Some (read_number rest) else (None, rest)

abbrev pub read_segment : Reader Segment
read_segment [] = (number 0, [])
read_segment (b ∷ rest) = if b == 1 then read_map word (read_word rest) else read_map number (read_number rest)

abbrev pub read_segments : Reader (List Segment)
read_segments bytes = read_ended read_segment (length bytes) bytes

abbrev pub read_label : Reader (List Segment)
read_label [] = ([], [])
read_label (b ∷ rest) = if b == 0 then ([], rest) else read_segments rest

-- one part behind the other
abbrev pub from_label : ℕ → List ℕ → Option (Phase × ℕ) → Option ℕ → Option ℕ → List Segment × List ℕ → Version × List ℕ
from_label epoch release pre post dev p = (version_with epoch release pre post dev p.0, p.1)

abbrev pub from_dev : ℕ → List ℕ → Option (Phase × ℕ) → Option ℕ → Option ℕ × List ℕ → Version × List ℕ
from_dev epoch release pre post p = from_label epoch release pre post p.0 (read_label p.1)

abbrev pub from_post : ℕ → List ℕ → Option (Phase × ℕ) → Option ℕ × List ℕ → Version × List ℕ
from_post epoch release pre p = from_dev epoch release pre p.0 (read_dev p.1)

abbrev pub from_stage : ℕ → List ℕ → Option (Phase × ℕ) × List ℕ → Version × List ℕ
from_stage epoch release p = from_post epoch release p.0 (read_post p.1)

abbrev pub from_release : ℕ → List ℕ × List ℕ → Version × List ℕ
from_release epoch p = from_stage epoch p.0 (read_stage p.1)

abbrev pub from_epoch : ℕ × List ℕ → Version × List ℕ
from_epoch p = from_release p.0 (read_release p.1)

-- a version, and the bytes behind its key
abbrev pub read_version : Reader Version
read_version bytes = from_epoch (read_number bytes)

-- the version at a key
abbrev pub version_at : List ℕ → Version
version_at bytes = (read_version bytes).0

-- what stands behind the epoch and the release of a key
abbrev pub behind_place : List ℕ → List ℕ
behind_place bytes = (read_numbers (read_number bytes).1).1

-- the bytes are the key of some version
abbrev pub IsKey : List ℕ → Type 0
IsKey bytes = (v : Version) × IsVersion v × (key_bytes v ≡ bytes)

-- the same as a test: the version read from the bytes is one, and they are its key
pub record ReadsBack (bytes : List ℕ) : Type 0 where
  pub version : IsVersion (version_at bytes)
  pub key : key_bytes (version_at bytes) ≡ bytes
