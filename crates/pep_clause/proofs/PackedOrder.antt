-- The numbers of packed cuts have the order of the cuts.
use Rattle.std.proofs.Common.{◌≡◌, ◌<◌, ◌≤◌, ◌+◌, ◌*◌, ◌^◌, ℕ, List, [], ◌∷◌, Option, Some, None, IfSome, length, refl, sym, ap, ◌∙◌, arith}
use Rattle.std.specs.Cmp.Lexicographic.{slice_cmp}
use Rattle.std.proofs.lemmas.Cmp.{ranked}
use Rattle.std.specs.Cmp.{nat_cmp_total, tied_itself}
use Rattle.std.specs.Option.{option_cmp}
use Rattle.std.specs.Ordering.{MatchOrdering, nat_cmp, ordering_then}
use Rattle.std.specs.declared.cmp.Ordering.{Ordering}
use Rattle.std.specs.declared.cmp.Ordering.TheVariants.{Less, Equal, Greater}
use Rattle.pep_version.proofs.ByteOrderLemmas.{then_assoc, then_last}
use Rattle.pep_version.proofs.NumberBytes.{first_digit, is_greater, is_less}
use Rattle.pep_version.specs.Laws.{release_cmp-lists}
use Rattle.pep_version.specs.Order.{dev_cmp, pre_number, release_cmp, segment_cmp, stage, stage_of, without_end_zeros}
use Rattle.pep_version.specs.Version.{Version}
use Rattle.pep_version.specs.declared.parts.Phase.{Phase}
use Rattle.pep_version.specs.declared.parts.Phase.TheVariants.{Alpha, Beta, Rc}
use Rattle.specifiers.specs.Clause.{Prefix}
use Rattle.pep_clause.specs.Cut.{Cut, before, after, past, end, cut_cmp}
use Rattle.pep_clause.specs.PackedCut.{HasPackedCut, IsShortRelease, IsShortSuffix, IsShortVersion, digit_unit, number_unit, dev_digit, end_word, four, four_word, last_digit, packed_word, past_stage, post_digit, release_word, suffixed_word, word_before, word_past}

-- ---- steps in turn, grouped from the left and from the right

four_steps : (a b c d : Ordering) → ordering_then (ordering_then (ordering_then a b) c) d
    ≡ ordering_then a (ordering_then b (ordering_then c (ordering_then d Equal)))
four_steps a b c d =
    then_assoc (ordering_then a b) c d ∙ then_assoc a b (ordering_then c d)
    ∙ ap (λ (x : Ordering). ordering_then a (ordering_then b (ordering_then c x))) (sym (then_last d))

-- those of the suffixes behind that of the release, as versions take them
suffix_steps : (r s p q e : Ordering) → ordering_then (ordering_then (ordering_then (ordering_then r s) p) q) e
    ≡ ordering_then r (ordering_then (ordering_then (ordering_then s p) (ordering_then q (ordering_then e Equal))) Equal)
suffix_steps r s p q e =
    let t = ordering_then s p in
    ap (λ (x : Ordering). ordering_then (ordering_then x q) e) (then_assoc r s p)
    ∙ ap (λ (x : Ordering). ordering_then x e) (then_assoc r t q)
    ∙ then_assoc r (ordering_then t q) e
    ∙ ap (ordering_then r) (then_assoc t q e
    ∙ ap (λ (x : Ordering). ordering_then t (ordering_then q x)) (sym (then_last e))
    ∙ sym (then_last (ordering_then t (ordering_then q (ordering_then e Equal)))))

-- ---- releases

pub four-zeros : (r : List ℕ) → length r ≤ 4 → without_end_zeros (four r) ≡ without_end_zeros r
four-zeros [] h = refl
four-zeros (a ∷ []) h = refl
four-zeros (a ∷ b ∷ []) h = refl
four-zeros (a ∷ b ∷ c ∷ []) h = refl
four-zeros (a ∷ b ∷ c ∷ d ∷ []) h = refl
four-zeros (a ∷ b ∷ c ∷ d ∷ e ∷ rest) h = absurd (omega (arith, h))

four-cmp : (r t : List ℕ) → length r ≤ 4 → length t ≤ 4 → release_cmp (four r) (four t) ≡ release_cmp r t
four-cmp r t h g =
    release_cmp-lists (four r) (four t)
    ∙ (λ i. slice_cmp nat_cmp (four-zeros r h i) (four-zeros t g i))
    ∙ sym (release_cmp-lists r t)

four_word-cmp : (a b c d x y z w : ℕ) → b < number_unit → c < number_unit → d < number_unit → y < number_unit → z < number_unit → w < number_unit
    → nat_cmp (four_word a b c d) (four_word x y z w) ≡ release_cmp (a ∷ b ∷ c ∷ d ∷ []) (x ∷ y ∷ z ∷ w ∷ [])
four_word-cmp a b c d x y z w hb hc hd hy hz hw =
    first_digit ((a * number_unit + b) * number_unit + c) d ((x * number_unit + y) * number_unit + z) w number_unit hd hw
    ∙ ap (λ (r : Ordering). ordering_then r (nat_cmp d w)) (first_digit (a * number_unit + b) c (x * number_unit + y) z number_unit hc hz
    ∙ ap (λ (r : Ordering). ordering_then r (nat_cmp c z)) (first_digit a b x y number_unit hb hy))
    ∙ four_steps (nat_cmp a x) (nat_cmp b y) (nat_cmp c z) (nat_cmp d w)

release_word-cmp : {m n : ℕ} (r t : List ℕ) → IsShortRelease m r → IsShortRelease n t → nat_cmp (release_word r) (release_word t) ≡ release_cmp r t
release_word-cmp r t p q =
    four_word-cmp _ _ _ _ _ _ _ _ p.numbers.second p.numbers.third p.numbers.fourth q.numbers.second q.numbers.third q.numbers.fourth
    ∙ four-cmp r t p.few q.few

-- ---- digits behind a release

-- the digits of a packed cut
pub record AreDigits (s p q e : ℕ) : Type 0 where
  pub stage : s < digit_unit
  pub pre : p < digit_unit
  pub post : q < digit_unit
  pub dev : e < digit_unit

suffixed-cmp : (x s p q e y t l m n : ℕ) → AreDigits s p q e → AreDigits t l m n
    → nat_cmp (suffixed_word x s p q e) (suffixed_word y t l m n)
    ≡ ordering_then (ordering_then (ordering_then (ordering_then (nat_cmp x y) (nat_cmp s t)) (nat_cmp p l)) (nat_cmp q m)) (nat_cmp e n)
suffixed-cmp x s p q e y t l m n h g =
    let u = digit_unit in
    first_digit (((x * u + s) * u + p) * u + q) e (((y * u + t) * u + l) * u + m) n u h.dev g.dev
    ∙ ap (λ (r : Ordering). ordering_then r (nat_cmp e n)) (first_digit ((x * u + s) * u + p) q ((y * u + t) * u + l) m u h.post g.post
    ∙ ap (λ (r : Ordering). ordering_then r (nat_cmp q m)) (first_digit (x * u + s) p (y * u + t) l u h.pre g.pre
    ∙ ap (λ (r : Ordering). ordering_then r (nat_cmp p l)) (first_digit x s y t u h.stage g.stage)))

pub stage_low : (pre : Option (Phase × ℕ)) (post dev : Option ℕ) → stage_of pre post dev ≤ 4
stage_low (Some (Alpha, n)) post dev = omega arith
stage_low (Some (Beta, n)) post dev = omega arith
stage_low (Some (Rc, n)) post dev = omega arith
stage_low None None None = omega arith
stage_low None None (Some n) = omega arith
stage_low None (Some n) dev = omega arith

dev_low : (dev : Option ℕ) → IfSome dev (λ n. n < last_digit) → dev_digit dev < digit_unit
dev_low None h = omega arith
dev_low (Some n) h = omega (arith, h)

pub version-digits : (v : Version) → IsShortSuffix v.pre v.post v.dev → AreDigits (stage v) (pre_number v) (post_digit v.post) (dev_digit v.dev)
version-digits v h = record {
  stage = omega (arith, stage_low v.pre v.post v.dev);
  pre = h.pre;
  post = h.post;
  dev = dev_low v.dev h.dev;
}

raised-cmp : (m n : ℕ) → nat_cmp (m + 1) (n + 1) ≡ nat_cmp m n
raised-cmp m n = by (nat_cmp m n) (ranked m n _ refl)
  where
    by : (r : Ordering) → MatchOrdering r (m < n) (m ≡ n) (n < m) → nat_cmp (m + 1) (n + 1) ≡ r
    by Less l = is_less (m + 1) (n + 1) (omega (arith, l))
    by Greater l = is_greater (m + 1) (n + 1) (omega (arith, l))
    by Equal l = rw l (tied_itself nat_cmp_total (n + 1))

post-cmp : (a b : Option ℕ) → nat_cmp (post_digit a) (post_digit b) ≡ option_cmp nat_cmp a b
post-cmp None None = refl
post-cmp None (Some n) = is_less 0 (n + 1) (omega arith)
post-cmp (Some m) None = is_greater (m + 1) 0 (omega arith)
post-cmp (Some m) (Some n) = raised-cmp m n

dev-cmp : (a b : Option ℕ) → IfSome a (λ n. n < last_digit) → IfSome b (λ n. n < last_digit) → nat_cmp (dev_digit a) (dev_digit b) ≡ dev_cmp a b
dev-cmp None None h g = refl
dev-cmp None (Some n) h g = is_greater last_digit n g
dev-cmp (Some m) None h g = is_less m last_digit h
dev-cmp (Some m) (Some n) h g = refl

-- ---- below the end

pub release-below : {m : ℕ} (r : List ℕ) → IsShortRelease m r → release_word r < 2 ^ 100
release-below r h = omega (arith, h.numbers.first, h.numbers.second, h.numbers.third, h.numbers.fourth)

pub below_end : (x s p q e : ℕ) → x < 2 ^ 100 → s ≤ past_stage → AreDigits s p q e → suffixed_word x s p q e < end_word
below_end x s p q e h low d = omega (arith, h, low, d.pre, d.post, d.dev)

pub version-below : (v : Version) → IsShortVersion v → word_before v < end_word
version-below v h =
    below_end (release_word v.release) _ _ _ _ (release-below v.release h.release)
    (omega (arith, stage_low v.pre v.post v.dev)) (version-digits v h.suffix)

pub past-digits : AreDigits past_stage 0 0 last_digit
past-digits = record { stage = omega arith; pre = omega arith; post = omega arith; dev = omega arith }

pub past-below : {m : ℕ} (r : List ℕ) → IsShortRelease m r → word_past r < end_word
past-below r h = below_end (release_word r) _ _ _ _ (release-below r h) (omega arith) past-digits

-- ---- the order

between_versions : (v w : Version) → IsShortVersion v → IsShortVersion w → nat_cmp (word_before v) (word_before w) ≡ cut_cmp (before v) (before w)
between_versions v w p q =
    suffixed-cmp _ _ _ _ _ _ _ _ _ _ (version-digits v p.suffix) (version-digits w q.suffix)
    ∙ (λ i. ordering_then (ordering_then (ordering_then (ordering_then (release_word-cmp v.release w.release p.release q.release i)
    (nat_cmp (stage v) (stage w))) (nat_cmp (pre_number v) (pre_number w))) (post-cmp v.post w.post i)) (dev-cmp v.dev w.dev p.suffix.dev q.suffix.dev i))
    ∙ suffix_steps (release_cmp v.release w.release) (nat_cmp (stage v) (stage w)) (nat_cmp (pre_number v) (pre_number w)) (option_cmp nat_cmp v.post w.post) (dev_cmp v.dev w.dev)
    ∙ sym (λ i. ordering_then (nat_cmp (p.release.epoch i) (q.release.epoch i)) (ordering_then (release_cmp v.release w.release)
    (ordering_then (ordering_then (ordering_then (nat_cmp (stage v) (stage w)) (nat_cmp (pre_number v) (pre_number w)))
    (ordering_then (option_cmp nat_cmp v.post w.post) (ordering_then (dev_cmp v.dev w.dev) (slice_cmp segment_cmp (p.label i) (q.label i))))) Equal)))

-- past a release, the release alone decides
stage_less : (r p q e : Ordering) → ordering_then (ordering_then (ordering_then (ordering_then r Less) p) q) e ≡ ordering_then r Less
stage_less Less p q e = refl
stage_less Equal p q e = refl
stage_less Greater p q e = refl

stage_greater : (r p q e : Ordering) → ordering_then (ordering_then (ordering_then (ordering_then r Greater) p) q) e ≡ ordering_then r Greater
stage_greater Less p q e = refl
stage_greater Equal p q e = refl
stage_greater Greater p q e = refl

stage_equal : (r : Ordering) → ordering_then (ordering_then (ordering_then (ordering_then r Equal) Equal) Equal) Equal ≡ ordering_then r Equal
stage_equal Less = refl
stage_equal Equal = refl
stage_equal Greater = refl

before_past : (v : Version) (r : Prefix) → IsShortVersion v → IsShortRelease r.epoch r.release
    → nat_cmp (word_before v) (word_past r.release) ≡ cut_cmp (before v) (past r)
before_past v r p q =
    let below : stage v < past_stage = omega (arith, stage_low v.pre v.post v.dev) in
    suffixed-cmp _ _ _ _ _ _ _ _ _ _ (version-digits v p.suffix) past-digits
    ∙ (λ i. ordering_then (ordering_then (ordering_then (ordering_then (release_word-cmp v.release r.release p.release q i)
    (is_less (stage v) past_stage below i)) (nat_cmp (pre_number v) 0)) (nat_cmp (post_digit v.post) 0)) (nat_cmp (dev_digit v.dev) last_digit))
    ∙ stage_less (release_cmp v.release r.release) (nat_cmp (pre_number v) 0) (nat_cmp (post_digit v.post) 0) (nat_cmp (dev_digit v.dev) last_digit)
    ∙ sym (λ i. ordering_then (nat_cmp (p.release.epoch i) (q.epoch i)) (ordering_then (release_cmp v.release r.release) Less))

past_before : (r : Prefix) (v : Version) → IsShortRelease r.epoch r.release → IsShortVersion v
    → nat_cmp (word_past r.release) (word_before v) ≡ cut_cmp (past r) (before v)
past_before r v p q =
    let below : stage v < past_stage = omega (arith, stage_low v.pre v.post v.dev) in
    suffixed-cmp _ _ _ _ _ _ _ _ _ _ past-digits (version-digits v q.suffix)
    ∙ (λ i. ordering_then (ordering_then (ordering_then (ordering_then (release_word-cmp r.release v.release p q.release i)
    (is_greater past_stage (stage v) below i)) (nat_cmp 0 (pre_number v))) (nat_cmp 0 (post_digit v.post))) (nat_cmp last_digit (dev_digit v.dev)))
    ∙ stage_greater (release_cmp r.release v.release) (nat_cmp 0 (pre_number v)) (nat_cmp 0 (post_digit v.post)) (nat_cmp last_digit (dev_digit v.dev))
    ∙ sym (λ i. ordering_then (nat_cmp (p.epoch i) (q.release.epoch i)) (ordering_then (release_cmp r.release v.release) Greater))

between_pasts : (r t : Prefix) → IsShortRelease r.epoch r.release → IsShortRelease t.epoch t.release
    → nat_cmp (word_past r.release) (word_past t.release) ≡ cut_cmp (past r) (past t)
between_pasts r t p q =
    suffixed-cmp (release_word r.release) _ _ _ _ (release_word t.release) _ _ _ _ past-digits past-digits
    ∙ (λ i. ordering_then (ordering_then (ordering_then (ordering_then (release_word-cmp r.release t.release p q i) Equal) Equal) Equal) Equal)
    ∙ stage_equal (release_cmp r.release t.release)
    ∙ sym (λ i. ordering_then (nat_cmp (p.epoch i) (q.epoch i)) (ordering_then (release_cmp r.release t.release) Equal))

pub packed-order : (c d : Cut) → HasPackedCut c → HasPackedCut d → nat_cmp (packed_word c) (packed_word d) ≡ cut_cmp c d
packed-order (before v) (before w) p q = between_versions v w p q
packed-order (before v) end p q = is_less _ _ (version-below v p)
packed-order end (before w) p q = is_greater _ _ (version-below w q)
packed-order end end p q = refl
packed-order (before v) (past r) p q = before_past v r p q
packed-order (past r) (before v) p q = past_before r v p q
packed-order (past r) (past t) p q = between_pasts r t p q
packed-order (past r) end p q = is_less _ _ (past-below r.release p)
packed-order end (past r) p q = is_greater _ _ (past-below r.release q)
packed-order (after v) d p q = absurd p
packed-order (before v) (after w) p q = absurd q
packed-order (past r) (after w) p q = absurd q
packed-order end (after w) p q = absurd q
