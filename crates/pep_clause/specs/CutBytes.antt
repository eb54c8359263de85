-- The bytes of a cut. Byte order is the order of cuts, and a version lies under a cut exactly if its
-- key is below the cut's bytes (`CutsKeepOrder`).
use Rattle.std.specs.Prelude.{◌≡◌, ℕ, List, [], ◌∷◌, ◌++◌}
use Rattle.std.specs.Ordering.{is_lt}
use Rattle.pep_version.specs.ByteOrder.{byte_cmp}
use Rattle.pep_version.specs.KeyBytes.{key_bytes, place_bytes}
use Rattle.pep_version.specs.Version.{IsVersion, Version}
use Rattle.pep_clause.specs.Cut.{Cut, IsCut, before, after, past, end, cut_cmp, final_version}
use Rattle.pep_clause.specs.Cut.{is_under}

abbrev pub nine_bytes : List ℕ
nine_bytes = 0xff ∷ 0xff ∷ 0xff ∷ 0xff ∷ 0xff ∷ 0xff ∷ 0xff ∷ 0xff ∷ 0xff ∷ []

-- `after` has the key and then 0; `past` has its release as in a key and then 0x60, above each byte
-- that a key has there; `end` is above all that a number can begin
abbrev pub cut_bytes : Cut → List ℕ
cut_bytes (before v) = key_bytes v
cut_bytes (after v) = key_bytes v ++ (0 ∷ [])
cut_bytes (past r) = place_bytes (final_version r) ++ (0x60 ∷ [])
cut_bytes end = nine_bytes

-- the cut's version or release is one
abbrev pub StandsAtVersion : Cut → Type 0
StandsAtVersion (before v) = IsVersion v
StandsAtVersion (after v) = IsVersion v
StandsAtVersion (past r) = IsVersion (final_version r)
StandsAtVersion end = Unit {0}

-- What the bytes of cuts are for, beside the keys: byte order is the order of cuts, cuts in their
-- one spelling have bytes of their own, and a version lies under a cut exactly if its key is below
-- the cut's bytes.
pub record CutsKeepOrder : Type 0 where
  pub order : (c d : Cut) → StandsAtVersion c → StandsAtVersion d →
      byte_cmp (cut_bytes c) (cut_bytes d) ≡ cut_cmp c d
  pub one : (c d : Cut) → IsCut c → IsCut d → cut_bytes c ≡ cut_bytes d → c ≡ d
  pub under : (c : Cut) (v : Version) → StandsAtVersion c → IsVersion v →
      is_under c v ≡ is_lt (byte_cmp (key_bytes v) (cut_bytes c))
