-- The text of a key's version, part by part.
use Rattle.std.proofs.Common.{◌≡◌, ◌==◌, ℕ, ◌-◌, ◌<◌, ◌≤◌, List, [], ◌∷◌, ◌++◌, append-nil, append_assoc, arith, codes, decimal, false, drop, get_or, length, map, take, true, refl, sym, ap, ◌∙◌}
use Rattle.std.proofs.lemmas.List.{length-map, map-append}
use Rattle.std.specs.List.{join_with_byte}
use Rattle.std.specs.Fmt.{digits}
use Rattle.std.specs.Prelude.{if◌then◌else◌, nat_lt}
use Rattle.pep_version.proofs.KeyLoops.{at_end, at_start, behind, one_more, segment_left}
use Rattle.pep_version.proofs.TextLemmas.{dot_before, join-push}
use Rattle.pep_version.specs.KeyReading.{read_label, read_segment, read_segments, whole_release}
use Rattle.pep_version.specs.Text.{label_text, release_text, segment_text}
use Rattle.pep_version.specs.Version.{Segment}
use Rattle.texts.specs.TextOut.{Extends}

abbrev pub segments_text : List Segment → List ℕ
segments_text done = join_with_byte 46 (map segment_text done)

-- a number more
pub numbers_more : (done : List ℕ) (n : ℕ) → release_text (done ++ n ∷ [])
    ≡ release_text done ++ (dot_before (length done) ++ decimal n)
numbers_more done n =
    ap (join_with_byte 46) (map-append decimal done (n ∷ [])) ∙ join-push (map decimal done) (decimal n)
    ∙ ap (λ k. release_text done ++ (dot_before k ++ decimal n)) (length-map done decimal)

-- a segment more
pub segments_more : (done : List Segment) (s : Segment) → segments_text (done ++ s ∷ [])
    ≡ segments_text done ++ (dot_before (length done) ++ segment_text s)
segments_more done s =
    ap (join_with_byte 46) (map-append segment_text done (s ∷ []))
    ∙ join-push (map segment_text done) (segment_text s)
    ∙ ap (λ k. segments_text done ++ (dot_before k ++ segment_text s)) (length-map done segment_text)

-- 0, where no number was written
abbrev pub zero_text : ℕ → List ℕ
zero_text count = if count == 0 then codes "0" else []

whole_text : (done : List ℕ) → release_text done ++ zero_text (length done) ≡ release_text (whole_release done)
unfolding digits
whole_text [] = refl
whole_text (n ∷ done) =
    let some : (length (n ∷ done) == 0) ≡ false = grind arith in rw some (append-nil (release_text (n ∷ done)))

-- all numbers are written
pub release_done : (start : List ℕ) {old new : List ℕ} (done numbers : List ℕ) (count : ℕ) →
    new ≡ old ++ zero_text count → old ≡ start ++ release_text done → count ≡ length done → numbers ≡ done
    → new ≡ start ++ release_text (whole_release numbers)
release_done start done numbers count n o c d =
    n ∙ ap (λ t. t ++ zero_text count) o ∙ append_assoc start (release_text done) (zero_text count)
    ∙ ap (λ t. start ++ t) (ap (λ k. release_text done ++ zero_text k) c ∙ whole_text done
    ∙ ap (λ ns. release_text (whole_release ns)) (sym d))

-- what extends a longer text extends the text
pub extends_on : (start front : List ℕ) {old new : List ℕ} → old ≡ start ++ front → Extends old new →
    Extends start new
extends_on start front o (part, n) = (
  front ++ part,
  n ∙ ap (λ t. t ++ part) o ∙ append_assoc start front part,
)

-- ---- the label

-- behind another byte than 0 stand its segments
pub label_segments : (bytes : List ℕ) → 1 ≤ length bytes → (get_or bytes 0 0 == 0) ≡ false →
    read_label bytes ≡ read_segments (take (length bytes - 1) (drop 1 bytes))
label_segments [] h e = absurd (omega (arith, h))
label_segments (b ∷ rest) h e = rw e (ap read_segments (sym (behind (b ∷ rest))))

plus_first : (xs more : List Segment) (s : Segment) → xs ≡ (s ∷ []) ++ more →
    codes "+" ++ segments_text xs ≡ label_text xs
plus_first xs more s e = rw e refl

some_plus : (rest : List ℕ) → nat_lt 0 (get_or rest 0 0) ≡ true →
    codes "+" ++ segments_text (read_segments rest).0 ≡ label_text (read_segments rest).0
some_plus [] h = cc h
some_plus (b ∷ rest) h =
    let some : 0 < get_or (b ∷ rest) 0 0 = grind (arith, h) in
    let one =
    one_more read_segment (read_segments (b ∷ rest)) [] (b ∷ rest) (at_start read_segment (b ∷ rest)) some
    (segment_left (b ∷ rest) (omega arith)) in plus_first _ _ _ one.values

no_segment : (rest : List ℕ) → nat_lt 0 (get_or rest 0 0) ≡ false → (read_segments rest).0 ≡ []
no_segment rest h =
    let none : get_or rest 0 0 ≡ 0 = grind (arith, h) in
    (at_end read_segment (read_segments rest) [] rest (at_start read_segment rest) none).0

pub label_some : (bytes : List ℕ) → 1 ≤ length bytes → (get_or bytes 0 0 == 0) ≡ false →
    nat_lt 0 (get_or (take (length bytes - 1) (drop 1 bytes)) 0 0) ≡ true →
    codes "+" ++ segments_text (read_segments (take (length bytes - 1) (drop 1 bytes))).0
    ≡ label_text (read_label bytes).0
label_some bytes h e some =
    some_plus (take (length bytes - 1) (drop 1 bytes)) some ∙ ap (λ (p : List Segment × List ℕ). label_text p.0) (sym (label_segments bytes h e))

pub label_none : (bytes : List ℕ) → 1 ≤ length bytes → (get_or bytes 0 0 == 0) ≡ false →
    nat_lt 0 (get_or (take (length bytes - 1) (drop 1 bytes)) 0 0) ≡ false → label_text (read_label bytes).0 ≡ []
label_none bytes h e none =
    ap (λ (p : List Segment × List ℕ). label_text p.0) (label_segments bytes h e)
    ∙ ap label_text (no_segment (take (length bytes - 1) (drop 1 bytes)) none)
