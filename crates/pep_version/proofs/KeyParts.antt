-- Each reader of a key reads its code back.
use Rattle.std.proofs.Common.{◌≡◌, ◌<◌, ◌+◌, ◌==◌, ◌&&◌, ℕ, zero, suc, false, List, [], ◌∷◌, ◌++◌, length, Option, Some, None, refl, sym, ap, ◌∙◌, arith, append_assoc, append-nil, length-append}
use Rattle.std.proofs.lemmas.Bool.{le-ltb}
use Rattle.std.proofs.lemmas.Nat.{from_be_bytes-to_be_bytes_8}
use Rattle.std.specs.Int.{w64, from_be_bytes}
use Rattle.std.specs.List.{AllByRecursion}
use Rattle.std.specs.Option.{IfSome}
use Rattle.std.specs.Prelude.{if◌then◌else◌}
use Rattle.pep_version.specs.ByteOrder.{ended}
use Rattle.pep_version.proofs.ByteOrderLemmas.{Starts}
use Rattle.std.proofs.lemmas.Bool.{and_parts}
use Rattle.pep_version.specs.Order.{place_of, short_release, without_end_zeros}
use Rattle.pep_version.specs.KeyBytes.{place_bytes, stage_bytes, dev_bytes, epoch_bytes, number_bytes, key_bytes, label_bytes, phase_byte, post_bytes, release_bytes, release_number_bytes, segment_bytes, stage_bytes_of, suffix_bytes}
use Rattle.pep_version.proofs.KeyOrder.{IsSome_byte, WholeSegment, segment_starts, shortened_fits, whole, word_bytes}
use Rattle.pep_version.specs.View.{version_with}
use Rattle.pep_version.specs.Version.{Fits, IsVersion, Segment, Version, number, word}
use Rattle.texts.specs.Lists.{is_empty}
use Rattle.pep_version.specs.declared.parts.Phase.{Phase}
use Rattle.pep_version.specs.declared.parts.Phase.TheVariants.{Alpha, Beta, Rc}
use Rattle.pep_version.specs.KeyReading.{Reader, behind_place, read_version, from_dev, from_epoch, from_label, from_post, from_release, from_stage, put_first, read_dev, read_ended, read_label, read_map, read_number, read_numbers, read_post, read_release, read_release_number, read_segment, read_stage, version_at, whole_release, read_word, word_count}

pub record Reads {A : Type 0} (P : A → Type 0) (code : A → List ℕ) (read : Reader A) : Type 0 where
  pub by : (x : A) → P x → (s : List ℕ) → read (code x ++ s) ≡ (x, s)

number-front : (n : ℕ) (s : List ℕ) → read_number (number_bytes n ++ s) ≡ (from_be_bytes w64 (number_bytes n), s)
number-front n s = rw (le-ltb (length (number_bytes n ++ s)) 8 (omega arith)) refl

pub number-reads : Reads Fits number_bytes read_number
number-reads = record {
  by = λ n h s. number-front n s ∙ (λ i. (from_be_bytes-to_be_bytes_8 n (omega arith) i, s));
}

positive : (n : ℕ) → (suc n == 0) ≡ false
positive n = grind arith

starts-length : (bytes : List ℕ) → Starts bytes → 0 < length bytes
starts-length [] h = h
starts-length (b ∷ bytes) h = omega arith

module _ {A : Type 0} {P : A → Type 0} {c : A → List ℕ} {read : Reader A} (h : (x : A) → P x → Starts (c x)) (r : Reads P c read) where
  ended-length : (xs : List A) → AllByRecursion P xs → (s : List ℕ) → length xs < length (ended c xs ++ s)
  ended-length [] p s = omega arith
  ended-length (x ∷ xs) p s =
      let more = ended-length xs p.1 s in
      let first = starts-length (c x) (h x p.0) in
      rw (append_assoc (c x) (ended c xs) s, length-append (c x) (ended c xs ++ s)) (omega (arith, more, first))

  one_more : (k : ℕ) (bytes t : List ℕ) → Starts bytes → read_ended read (suc k) (bytes ++ t) ≡ put_first (read (bytes ++ t)).0 (read_ended read k (read (bytes ++ t)).1)
  one_more k [] t g = absurd (omega arith)
  one_more k (zero ∷ bytes) t g = absurd (omega arith)
  one_more k (suc b ∷ bytes) t g = rw (positive b) refl

  ended-reads : (xs : List A) → AllByRecursion P xs → (k : ℕ) → length xs < k → (s : List ℕ) → read_ended read k (ended c xs ++ s) ≡ (xs, s)
  ended-reads xs p zero l s = absurd (omega arith)
  ended-reads [] p (suc k) l s = refl
  ended-reads (x ∷ xs) p (suc k) l s =
      ap (read_ended read (suc k)) (append_assoc (c x) (ended c xs) s)
      ∙ one_more k (c x) (ended c xs ++ s) (h x p.0)
      ∙ ap (λ (q : A × List ℕ). put_first q.0 (read_ended read k q.1)) (r.by x p.0 (ended c xs ++ s))
      ∙ ap (put_first x) (ended-reads xs p.1 k (omega arith) s)

  -- as many elements as there are bytes are enough
  list-reads : (xs : List A) → AllByRecursion P xs → (s : List ℕ) → read_ended read (length (ended c xs ++ s)) (ended c xs ++ s) ≡ (xs, s)
  list-reads xs p s = ended-reads xs p (length (ended c xs ++ s)) (ended-length xs p s) s

one_plus : (n : ℕ) → 1 + n ≡ suc n
one_plus n = omega arith

letters-read : (letters : List ℕ) → AllByRecursion IsSome_byte letters → (s : List ℕ)
    → read_word (ended (λ b. b ∷ []) letters ++ s) ≡ (letters, s)
letters-read [] h s = refl
letters-read (zero ∷ letters) h s = absurd (omega (arith, h.0))
letters-read (suc b ∷ letters) h s =
    let rest = ended (λ b. b ∷ []) letters ++ s in
    rw (positive b, one_plus (word_count rest)) (ap (put_first (suc b)) (letters-read letters h.1 s))

whole-short : (xs : List ℕ) → 0 < length xs → whole_release (without_end_zeros xs) ≡ short_release xs
whole-short [] h = absurd (omega arith)
whole-short (n ∷ rest) h = first n (without_end_zeros rest)
  where
    first : (n : ℕ) (ys : List ℕ) → whole_release (if (n == 0) && is_empty ys then [] else n ∷ ys) ≡ n ∷ ys
    first zero [] = refl
    first zero (y ∷ ys) = refl
    first (suc n) ys = rw (positive n) refl

release_number-reads : Reads Fits release_number_bytes read_release_number
release_number-reads = record { by = λ n h s. number-reads.by n h s }

pub numbers-read : (xs : List ℕ) → AllByRecursion Fits xs → (s : List ℕ)
    → read_numbers (ended release_number_bytes xs ++ s) ≡ (xs, s)
numbers-read =
    list-reads {c = release_number_bytes} {read = read_release_number} (λ n g. omega arith) release_number-reads

release-reads : (xs : List ℕ) → 0 < length xs → AllByRecursion Fits xs → (s : List ℕ)
    → read_release (ended release_number_bytes (without_end_zeros xs) ++ s) ≡ (short_release xs, s)
release-reads xs some h s =
    ap (read_map whole_release) (numbers-read (without_end_zeros xs) (shortened_fits xs h) s)
    ∙ (λ i. (whole-short xs some i, s))

stage-reads : (p : Option (Phase × ℕ)) (post dev : Option ℕ) → IfSome p (λ x. Fits x.1) → (s : List ℕ) → read_stage (stage_bytes_of p post dev ++ s) ≡ (p, s)
stage-reads (Some p) post dev h s = phase p.0
  where
    phase : (q : Phase) → read_stage ((phase_byte q ∷ number_bytes p.1) ++ s) ≡ (Some (q, p.1), s)
    phase Alpha = ap (read_map (λ n. Some (Alpha, n))) (number-reads.by p.1 h s)
    phase Beta = ap (read_map (λ n. Some (Beta, n))) (number-reads.by p.1 h s)
    phase Rc = ap (read_map (λ n. Some (Rc, n))) (number-reads.by p.1 h s)
stage-reads None None None h s = refl
stage-reads None None (Some n) h s = refl
stage-reads None (Some n) dev h s = refl

post-reads : (x : Option ℕ) → IfSome x Fits → (s : List ℕ) → read_post (post_bytes x ++ s) ≡ (x, s)
post-reads None h s = refl
post-reads (Some n) h s = ap (read_map Some) (number-reads.by n h s)

dev-reads : (x : Option ℕ) → IfSome x Fits → (s : List ℕ) → read_dev (dev_bytes x ++ s) ≡ (x, s)
dev-reads None h s = refl
dev-reads (Some n) h s = ap (read_map Some) (number-reads.by n h s)

segment-reads : Reads WholeSegment segment_bytes read_segment
segment-reads = record { by = at }
  where
    at : (x : Segment) → WholeSegment x → (s : List ℕ) → read_segment (segment_bytes x ++ s) ≡ (x, s)
    at (word a) h s = ap (read_map word) (letters-read a (word_bytes a ((and_parts _ _ h.0).0)) s)
    at (number n) h s = ap (read_map number) (number-reads.by n h.1 s)

label-reads : (xs : List Segment) → AllByRecursion WholeSegment xs → (s : List ℕ) → read_label (label_bytes xs ++ s) ≡ (xs, s)
label-reads [] h s = refl
label-reads (x ∷ xs) h s = list-reads {c = segment_bytes} {read = read_segment} segment_starts segment-reads (x ∷ xs) h s

-- the parts of a key, one behind the other
pub key_parts : (v : Version) (s : List ℕ) → key_bytes v ++ s ≡ epoch_bytes v ++ (release_bytes v
    ++ (stage_bytes v ++ (post_bytes v.post ++ (dev_bytes v.dev ++ (label_bytes v.label ++ s)))))
key_parts v s =
    let last = label_bytes v.label in
    let third = dev_bytes v.dev ++ last in
    let second = post_bytes v.post ++ third in
    append_assoc (place_bytes v) (suffix_bytes v) s
    ∙ append_assoc (epoch_bytes v) (release_bytes v) (suffix_bytes v ++ s)
    ∙ ap (λ (xs : List ℕ). epoch_bytes v ++ (release_bytes v ++ xs)) (append_assoc (stage_bytes v) second s
    ∙ ap (λ (xs : List ℕ). stage_bytes v ++ xs) (append_assoc (post_bytes v.post) third s
    ∙ ap (λ (xs : List ℕ). post_bytes v.post ++ xs) (append_assoc (dev_bytes v.dev) last s)))

-- the version at the front of bytes that begin with a version's key is the place of that version
pub version-front : (v : Version) → IsVersion v → (s : List ℕ) → read_version (key_bytes v ++ s) ≡ (place_of v, s)
version-front v h s =
    let fourth = label_bytes v.label ++ s in
    let third = dev_bytes v.dev ++ fourth in
    let second = post_bytes v.post ++ third in
    let first = stage_bytes v ++ second in
    let release = short_release v.release in
    ap read_version (key_parts v s)
    ∙ ap from_epoch (number-reads.by v.epoch h.numbers.epoch (release_bytes v ++ first))
    ∙ ap (from_release v.epoch) (release-reads v.release h.release h.numbers.release first)
    ∙ ap (from_stage v.epoch release) (stage-reads v.pre v.post v.dev h.numbers.pre second)
    ∙ ap (from_post v.epoch release v.pre) (post-reads v.post h.numbers.post third)
    ∙ ap (from_dev v.epoch release v.pre v.post) (dev-reads v.dev h.numbers.dev fourth)
    ∙ ap (from_label v.epoch release v.pre v.post v.dev) (label-reads v.label (whole v.label h.label h.numbers.label) s)

-- the version at a version's key is the place of that version
pub version_at-key : (v : Version) → IsVersion v → version_at (key_bytes v) ≡ place_of v
version_at-key v h =
    ap version_at (sym (append-nil (key_bytes v))) ∙ ap (λ (p : Version × List ℕ). p.0) (version-front v h [])

-- what stands behind the epoch and the release of a version
pub behind_place-is : (v : Version) → IsVersion v → (s : List ℕ) → behind_place (place_bytes v ++ s) ≡ s
behind_place-is v h s =
    ap behind_place (append_assoc (epoch_bytes v) (release_bytes v) s)
    ∙ ap (λ (p : ℕ × List ℕ). (read_numbers p.1).1) (number-reads.by v.epoch h.numbers.epoch (release_bytes v ++ s))
    ∙ ap (λ (p : List ℕ × List ℕ). p.1)
    (numbers-read (without_end_zeros v.release) (shortened_fits v.release h.numbers.release) s)

-- a place and one byte that begins no stage of a pre-release are read as the final release
pub place-front : (v : Version) → IsVersion v → read_version (place_bytes v ++ (0x60 ∷ []))
    ≡ (version_with v.epoch (short_release v.release) None None None [], [])
place-front v h =
    ap read_version (append_assoc (epoch_bytes v) (release_bytes v) (0x60 ∷ []))
    ∙ ap from_epoch (number-reads.by v.epoch h.numbers.epoch (release_bytes v ++ (0x60 ∷ [])))
    ∙ ap (from_release v.epoch) (release-reads v.release h.release h.numbers.release (0x60 ∷ []))
