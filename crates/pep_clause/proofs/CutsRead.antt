-- Cuts that are read from their bytes.
use Rattle.std.proofs.Common.{◌≡◌, ℕ, List, [], ◌∷◌, ◌++◌, Option, Some, None, refl, sym, ap, ◌∙◌, subst, append-nil, append_assoc, take, length, ◌-◌, ◌==◌, Bool, true, false, if◌then◌else◌}
use Rattle.pep_version.proofs.KeyParts.{behind_place-is, place-front, version-front}
use Rattle.pep_version.specs.KeyBytes.{key_bytes, dev_bytes, label_bytes, number_bytes, phase_byte, place_bytes}
use Rattle.pep_version.specs.KeyBytes.{post_bytes, stage_bytes_of, suffix_bytes}
use Rattle.pep_version.specs.KeyReading.{behind_place, read_version}
use Rattle.pep_version.specs.Order.{place_of, short_release}
use Rattle.pep_version.specs.Version.{IsVersion, Version}
use Rattle.pep_version.specs.View.{version_with}
use Rattle.pep_version.specs.declared.parts.Phase.{Phase}
use Rattle.pep_version.specs.declared.parts.Phase.TheVariants.{Alpha, Beta, Rc}
use Rattle.specifiers.specs.Clause.{Prefix, prefix_of}
use Rattle.pep_clause.specs.Cut.{Cut, IsCut, before, after, past, end, cut_cmp, cut_text, end_rank}
use Rattle.pep_clause.specs.Cut.{final_version}
use Rattle.pep_version.proofs.KeyLoops.{front_of}
use Rattle.pep_version.specs.Text.{normal_text}
use Rattle.pep_clause.proofs.CutBytes.{cut-order, stands}
use Rattle.pep_version.specs.ByteOrder.{byte_cmp}
use Rattle.pep_clause.specs.CutBytes.{cut_bytes}
use Rattle.pep_clause.specs.CutView.{CutReadsBack, beside, cut_at, cut_behind, cut_word}
use Rattle.pep_clause.specs.CutView.{word_beside}

-- behind the place of a version no 0x60 stands
suffix-beside : (pre : Option (Phase × ℕ)) (post dev : Option ℕ) (s : List ℕ) (p : Version × List ℕ) →
    cut_behind (stage_bytes_of pre post dev ++ s) p ≡ beside p.0 p.1
suffix-beside (Some q) post dev s p = phase q.0
  where
    phase : (f : Phase) → cut_behind ((phase_byte f ∷ number_bytes q.1) ++ s) p ≡ beside p.0 p.1
    phase Alpha = refl
    phase Beta = refl
    phase Rc = refl
suffix-beside None None None s p = refl
suffix-beside None None (Some n) s p = refl
suffix-beside None (Some n) dev s p = refl

at_key : (v : Version) (s : List ℕ) → IsVersion v → place_of v ≡ v →
    cut_at (key_bytes v ++ s) ≡ beside v s
at_key v s h own =
    let more = post_bytes v.post ++ (dev_bytes v.dev ++ label_bytes v.label) in
    let rest : behind_place (key_bytes v ++ s) ≡ stage_bytes_of v.pre v.post v.dev ++ (more ++ s) =
    ap behind_place (append_assoc (place_bytes v) (suffix_bytes v) s)
    ∙ behind_place-is v h (suffix_bytes v ++ s)
    ∙ append_assoc (stage_bytes_of v.pre v.post v.dev) more s in
    let front : read_version (key_bytes v ++ s) ≡ (v, s) =
    version-front v h s ∙ ap (λ (w : Version). (w, s)) own in
    (λ i. cut_behind (rest i) (front i))
    ∙ suffix-beside v.pre v.post v.dev (more ++ s) (v, s)

at_release : (r : Prefix) → IsVersion (final_version r) → short_release r.release ≡ r.release →
    cut_at (place_bytes (final_version r) ++ (0x60 ∷ [])) ≡ past r
at_release r h short =
    let v = final_version r in
    (λ i. cut_behind (behind_place-is v h (0x60 ∷ []) i) (place-front v h i))
    ∙ ap (λ (numbers : List ℕ). past (record { epoch = r.epoch; release = numbers })) short

-- the bytes of a cut but the end are read as that cut
pub cut_at-bytes : (c : Cut) → IsCut c → end_rank c ≡ 0 → cut_at (cut_bytes c) ≡ c
cut_at-bytes (before v) h e =
    ap cut_at (sym (append-nil (key_bytes v))) ∙ at_key v [] h.0 h.1
cut_at-bytes (after v) h e = at_key v (0 ∷ []) h.0 h.1
cut_at-bytes (past r) h e = at_release r h.0 h.1
cut_at-bytes end h e = cc

-- so they read back
pub reads_back : (bytes : List ℕ) (c : Cut) → IsCut c → end_rank c ≡ 0 → bytes ≡ cut_bytes c →
    CutReadsBack bytes
reads_back bytes c h e is =
    let at : cut_at bytes ≡ c = ap cut_at is ∙ cut_at-bytes c h e in
    record { cut = subst IsCut (sym at) h; bytes_are = ap cut_bytes at ∙ sym is }

pub cut_at-is : (bytes : List ℕ) (c : Cut) → IsCut c → end_rank c ≡ 0 → bytes ≡ cut_bytes c →
    cut_at bytes ≡ c
cut_at-is bytes c h e is = ap cut_at is ∙ cut_at-bytes c h e

-- two cuts compare as their bytes
pub bytes-order : (c d : Cut) → IsCut c → IsCut d → byte_cmp (cut_bytes c) (cut_bytes d) ≡ cut_cmp c d
bytes-order c d h g = cut-order c d (stands c h) (stands d g)

-- ---- the cut past a release

-- behind its place the key of a final release has four bytes; `past` has one
pub past-bytes : (bytes : List ℕ) (r : Prefix) → bytes ≡ key_bytes (final_version r) →
    take (length bytes - 4) bytes ++ (0x60 ∷ []) ≡ cut_bytes (past r)
past-bytes bytes r e =
    ap (λ (xs : List ℕ). take (length xs - 4) xs ++ (0x60 ∷ [])) e
    ∙ ap (λ (xs : List ℕ). xs ++ (0x60 ∷ []))
    (front_of (place_bytes (final_version r)) (0x50 ∷ 0 ∷ 1 ∷ 0 ∷ []))

-- ---- the text of a cut, from its bytes

suffix-word : (pre : Option (Phase × ℕ)) (post dev : Option ℕ) (s rest : List ℕ) →
    cut_word (stage_bytes_of pre post dev ++ s) rest ≡ word_beside rest
suffix-word (Some q) post dev s rest = phase q.0
  where
    phase : (f : Phase) → cut_word ((phase_byte f ∷ number_bytes q.1) ++ s) rest ≡ word_beside rest
    phase Alpha = refl
    phase Beta = refl
    phase Rc = refl
suffix-word None None None s rest = refl
suffix-word None None (Some n) s rest = refl
suffix-word None (Some n) dev s rest = refl

-- the version that is read from a cut's bytes is one, and with its word it is the cut's text
abbrev pub IsReadCut : List ℕ → Cut → Type 0
IsReadCut bytes c = IsVersion (read_version bytes).0
    × (cut_word (behind_place bytes) (read_version bytes).1 ++ normal_text (read_version bytes).0
    ≡ cut_text c)

beside_text : (v : Version) (s : List ℕ) → IsVersion v → place_of v ≡ v →
    cut_text (beside v s) ≡ word_beside s ++ normal_text v → IsReadCut (key_bytes v ++ s) (beside v s)
beside_text v s h own e =
    let more = post_bytes v.post ++ (dev_bytes v.dev ++ label_bytes v.label) in
    let rest : behind_place (key_bytes v ++ s) ≡ stage_bytes_of v.pre v.post v.dev ++ (more ++ s) =
    ap behind_place (append_assoc (place_bytes v) (suffix_bytes v) s)
    ∙ behind_place-is v h (suffix_bytes v ++ s)
    ∙ append_assoc (stage_bytes_of v.pre v.post v.dev) more s in
    let front : read_version (key_bytes v ++ s) ≡ (v, s) =
    version-front v h s ∙ ap (λ (w : Version). (w, s)) own in (
      subst (λ (p : Version × List ℕ). IsVersion p.0) (sym front) h,
      (λ i. cut_word (rest i) (front i).1 ++ normal_text (front i).0)
          ∙ ap (λ (xs : List ℕ). xs ++ normal_text v) (suffix-word v.pre v.post v.dev (more ++ s) s)
          ∙ sym e,
    )

past_text : (r : Prefix) → IsVersion (final_version r) → short_release r.release ≡ r.release →
    IsReadCut (place_bytes (final_version r) ++ (0x60 ∷ [])) (past r)
past_text r h short =
    let v = final_version r in
    let front : read_version (place_bytes v ++ (0x60 ∷ [])) ≡ (v, []) =
    place-front v h ∙ ap (λ (numbers : List ℕ). (version_with r.epoch numbers None None None [], [])) short in (
      subst (λ (p : Version × List ℕ). IsVersion p.0) (sym front) h,
      (λ i. cut_word (behind_place-is v h (0x60 ∷ []) i) (front i).1 ++ normal_text (front i).0),
    )

pub read_cut : (bytes : List ℕ) (c : Cut) → IsCut c → end_rank c ≡ 0 → bytes ≡ cut_bytes c →
    IsReadCut bytes c
read_cut bytes c h e is = subst (λ (xs : List ℕ). IsReadCut xs c) (sym is) (by c h e)
  where
    by : (c : Cut) → IsCut c → end_rank c ≡ 0 → IsReadCut (cut_bytes c) c
    by (before v) h e =
        subst (λ (xs : List ℕ). IsReadCut xs (before v)) (append-nil (key_bytes v)) (beside_text v [] h.0 h.1 refl)
    by (after v) h e = beside_text v (0 ∷ []) h.0 h.1 refl
    by (past r) h e = past_text r h.0 h.1
    by end h e = cc

-- bytes are never read as the end
beside_rank : (v : Version) (s : List ℕ) → end_rank (beside v s) ≡ 0
beside_rank v [] = refl
beside_rank v (b ∷ s) = refl

behind_rank : (rest : List ℕ) (p : Version × List ℕ) → end_rank (cut_behind rest p) ≡ 0
behind_rank [] p = beside_rank p.0 p.1
behind_rank (b ∷ rest) p = by (b == 0x60)
  where
    by : (t : Bool) → end_rank (if t then past (prefix_of p.0) else beside p.0 p.1) ≡ 0
    by true = refl
    by false = beside_rank p.0 p.1

pub cut_at_rank : (bytes : List ℕ) → end_rank (cut_at bytes) ≡ 0
cut_at_rank bytes = behind_rank (behind_place bytes) (read_version bytes)

-- two cuts that are held as their bytes
pub stored-order : (b d : List ℕ) → CutReadsBack b → CutReadsBack d →
    byte_cmp b d ≡ cut_cmp (cut_at b) (cut_at d)
stored-order b d p q =
    (λ i. byte_cmp (sym p.bytes_are i) (sym q.bytes_are i))
    ∙ bytes-order (cut_at b) (cut_at d) p.cut q.cut
