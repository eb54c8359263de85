-- Bytes that are a key, and the place that they are the key of.
use Rattle.std.proofs.Common.{◌≡◌, ◌↔◌, ℕ, Bool, true, false, List, [], ◌++◌, None, sym, ap, ◌∙◌, subst}
use Rattle.pep_version.proofs.PlaceLemmas.{place-of-place, place-version}
use Rattle.pep_version.specs.ByteOrder.{ended}
use Rattle.pep_version.specs.Order.{place_of, without_end_zeros}
use Rattle.pep_version.specs.KeyBytes.{dev_bytes, key_bytes, label_bytes, number_bytes, post_bytes, release_number_bytes, stage_bytes_of, suffix_bytes}
use Rattle.pep_version.proofs.KeyOrder.{keys-keep}
use Rattle.pep_version.specs.KeyReading.{IsKey, ReadsBack, version_at}
use Rattle.pep_version.proofs.KeyParts.{version_at-key}
use Rattle.pep_version.specs.Version.{IsVersion, Version}

-- the key of a version is the key of its place
pub key-place : (v : Version) → IsVersion v → key_bytes (place_of v) ≡ key_bytes v
key-place v h = (keys-keep.place (place_of v) v (place-version v h) h).1 (place-of-place v)

-- bytes are a key exactly if the version read from them has them for its key
pub IsKey-reads : (bytes : List ℕ) → IsKey bytes ↔ ReadsBack bytes
IsKey-reads bytes = (
  λ k.
      let at : version_at bytes ≡ place_of k.0 = ap version_at (sym k.2) ∙ version_at-key k.0 k.1 in
      record { version = subst IsVersion (sym at) (place-version k.0 k.1); key = ap key_bytes at ∙ key-place k.0 k.1 ∙ k.2 },
  λ h. (version_at bytes, h.version, h.key),
)

-- the version at a key is its own place
pub IsKey-place : (bytes : List ℕ) → IsKey bytes → place_of (version_at bytes) ≡ version_at bytes
IsKey-place bytes k =
    let at : version_at bytes ≡ place_of k.0 = ap version_at (sym k.2) ∙ version_at-key k.0 k.1 in
    ap place_of at ∙ place-of-place k.0 ∙ sym at

-- the bytes of a version's key, in store
pub ReadsBack-of : (bytes : List ℕ) (v : Version) → IsVersion v → bytes ≡ key_bytes v → ReadsBack bytes
ReadsBack-of bytes v h e = (IsKey-reads bytes).0 (v, h, sym e)

pub version_at-of : (bytes : List ℕ) (v : Version) → IsVersion v → bytes ≡ key_bytes v → version_at bytes ≡ place_of v
version_at-of bytes v h e = ap version_at e ∙ version_at-key v h

-- a key that is written from its parts
pub written-key : (v : Version) (release bytes : List ℕ) → release ≡ without_end_zeros v.release
    → bytes ≡ (number_bytes v.epoch ++ ended release_number_bytes release) ++ suffix_bytes v → bytes ≡ key_bytes v
written-key v release bytes e h =
    h ∙ ap (λ (xs : List ℕ). (number_bytes v.epoch ++ ended release_number_bytes xs) ++ suffix_bytes v) e

-- .. of a version without a pre-release and a label
pub written-short : (v : Version) (release bytes : List ℕ) → release ≡ without_end_zeros v.release
    → v.pre ≡ None → v.label ≡ []
    → bytes ≡ (number_bytes v.epoch ++ ended release_number_bytes release) ++ (stage_bytes_of None v.post v.dev
    ++ (post_bytes v.post ++ (dev_bytes v.dev ++ label_bytes []))) → bytes ≡ key_bytes v
written-short v release bytes e none bare h =
    written-key v release bytes e
    (h ∙ λ i. (number_bytes v.epoch ++ ended release_number_bytes release) ++ (stage_bytes_of (sym none i) v.post v.dev
    ++ (post_bytes v.post ++ (dev_bytes v.dev ++ label_bytes (sym bare i)))))

-- what is kept of a key in store
pub ReadsBack-own_place : (bytes : List ℕ) → ReadsBack bytes → place_of (version_at bytes) ≡ version_at bytes
ReadsBack-own_place bytes h = IsKey-place bytes ((IsKey-reads bytes).1 h)

-- the bytes that are kept of a version
pub stored : (bytes : List ℕ) (v : Version) → ReadsBack bytes → version_at bytes ≡ v → bytes ≡ key_bytes v
stored bytes v h e = sym h.key ∙ ap key_bytes e

pub from_false : {A : Type 0} → false ≡ true → A
from_false e = cc e

-- bytes of which no version is read are no key
pub unread_is_no_key : (bytes : List ℕ) (found : Bool) → found ≡ false
    → (IsVersion (version_at bytes) → found ≡ true) → (false ≡ true → IsKey bytes) × (IsKey bytes → false ≡ true)
unread_is_no_key bytes found none some = (
  from_false,
  λ k. sym none ∙ some ((IsKey-reads bytes).0 k).version,
)

-- nor are those that the version read from them doesn't have for its key
pub other_is_no_key : (bytes key : List ℕ) (v k : Version) → v ≡ version_at bytes → k ≡ place_of v
    → key ≡ key_bytes k → (key ≡ bytes → false ≡ true)
    → (false ≡ true → IsKey bytes) × (IsKey bytes → false ≡ true)
other_is_no_key bytes key v k read place written differ = (from_false, back)
  where
    back : IsKey bytes → false ≡ true
    back is =
        let h = (IsKey-reads bytes).0 is in
        differ (written ∙ ap key_bytes (place ∙ ap place_of read) ∙ key-place (version_at bytes) h.version ∙ h.key)

-- the version at the bytes of a place
pub at_own_place : (bytes : List ℕ) (v : Version) → IsVersion v → place_of v ≡ v → bytes ≡ key_bytes v
    → version_at bytes ≡ v
at_own_place bytes v h own e = version_at-of bytes v h e ∙ own
