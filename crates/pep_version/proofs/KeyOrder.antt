-- Laws of the bytes of keys: each part keeps its step of the order of versions, so byte order is the order of
-- versions.
use Rattle.std.proofs.Common.{◌≡◌, ◌<◌, ℕ, zero, suc, List, [], ◌∷◌, ◌++◌, Option, Some, None, refl, sym, ap, ◌∙◌, ◌↔◌, Bool, true, false, arith}
use Rattle.std.specs.Cmp.{tied_itself}
use Rattle.std.specs.Cmp.Lexicographic.{nat_list_cmp_total, slice_cmp}
use Rattle.std.specs.FinMap.{nat_cmp-IsAntisymmetric, slice_cmp-IsAntisymmetric}
use Rattle.std.specs.List.{AllByRecursion, list_all}
use Rattle.std.specs.Option.{IfSome, option_cmp}
use Rattle.std.specs.Ordering.{nat_cmp, on, ordering_then, then_cmp}
use Rattle.std.specs.Prelude.{◌&&◌, ◌==◌, if◌then◌else◌}
use Rattle.std.specs.declared.cmp.Ordering.{Ordering}
use Rattle.pep_version.proofs.ByteOrderLemmas.{Leads, Starts, keeps-leads, leads_ended, leads_on, leads_then, order-leads, then_assoc}
use Rattle.pep_version.specs.ByteOrder.{byte_cmp, ended}
use Rattle.std.proofs.lemmas.Bool.{and_parts}
use Rattle.pep_version.specs.Laws.{release_cmp-lists}
use Rattle.pep_version.proofs.PlaceLemmas.{Same-place_of}
use Rattle.pep_version.specs.Order.{Same, dev_cmp, phase_rank, place_cmp, pre_number, pre_number_of, release_cmp, segment_cmp, stage, stage_of, suffix_cmp, version_cmp, without_end_zeros}
use Rattle.pep_version.specs.KeyBytes.{KeysKeepOrder, PartsKeepOrder, dev_bytes, epoch_bytes, key_bytes, label_bytes, number_bytes, phase_byte, place_bytes, post_bytes, release_bytes, release_number_bytes, segment_bytes, stage_bytes, stage_bytes_of, suffix_bytes}
use Rattle.pep_version.proofs.NumberBytes.{number_bytes-leads}
use Rattle.pep_version.specs.Version.{Fits, IsSegment, IsVersion, Segment, SegmentFits, Version}
use Rattle.pep_version.specs.Version.{is_word_byte, number, word}
use Rattle.texts.specs.Lists.{is_empty}
use Rattle.pep_version.specs.declared.parts.Phase.{Phase}
use Rattle.pep_version.specs.declared.parts.Phase.TheVariants.{Alpha, Beta, Rc}

-- ---- words

-- what a word's byte is for its code: not 0
abbrev pub IsSome_byte : ℕ → Type 0
IsSome_byte b = 0 < b

byte_leads : Leads IsSome_byte nat_cmp (λ b. b ∷ [])
byte_leads = record { by = λ x y p q s t. refl }

word_byte : (b : ℕ) → is_word_byte b ≡ true → IsSome_byte b
word_byte zero h = cc h
word_byte (suc b) h = omega arith

pub word_bytes : (bs : List ℕ) → list_all is_word_byte bs ≡ true → AllByRecursion IsSome_byte bs
word_bytes [] h = tt
word_bytes (b ∷ bs) h = (word_byte b ((and_parts _ _ h).0), word_bytes bs ((and_parts _ _ h).1))

words_lead : Leads (AllByRecursion IsSome_byte) (slice_cmp nat_cmp) (ended (λ b. b ∷ []))
words_lead = leads_ended (λ b h. h) byte_leads

-- a segment as a version has it
abbrev pub WholeSegment : Segment → Type 0
WholeSegment x = IsSegment x × SegmentFits x

pub whole : (xs : List Segment) → AllByRecursion IsSegment xs → AllByRecursion SegmentFits xs → AllByRecursion WholeSegment xs
whole [] h g = tt
whole (x ∷ xs) h g = ((h.0, g.0), whole xs h.1 g.1)

-- ---- releases

either_fits : (b : Bool) (xs ys : List ℕ) → AllByRecursion Fits xs → AllByRecursion Fits ys → AllByRecursion Fits (if b then xs else ys)
either_fits true xs ys h g = h
either_fits false xs ys h g = g

pub shortened_fits : (xs : List ℕ) → AllByRecursion Fits xs → AllByRecursion Fits (without_end_zeros xs)
shortened_fits [] h = tt
shortened_fits (n ∷ rest) h =
    either_fits ((n == 0) && is_empty (without_end_zeros rest)) [] (n ∷ without_end_zeros rest) tt (h.0, shortened_fits rest h.1)

-- ---- stages

phase_bytes-cmp : (p q : Phase) → nat_cmp (phase_byte p) (phase_byte q) ≡ nat_cmp (phase_rank p) (phase_rank q)
phase_bytes-cmp Alpha Alpha = refl
phase_bytes-cmp Alpha Beta = refl
phase_bytes-cmp Alpha Rc = refl
phase_bytes-cmp Beta Alpha = refl
phase_bytes-cmp Beta Beta = refl
phase_bytes-cmp Beta Rc = refl
phase_bytes-cmp Rc Alpha = refl
phase_bytes-cmp Rc Beta = refl
phase_bytes-cmp Rc Rc = refl

-- what the order of stages compares
abbrev stage_step : Option (Phase × ℕ) → Option ℕ → Option ℕ → Option (Phase × ℕ) → Option ℕ → Option ℕ → Ordering
stage_step p post dev q post' dev' = ordering_then (nat_cmp (stage_of p post dev) (stage_of q post' dev')) (nat_cmp (pre_number_of p) (pre_number_of q))

-- whether a version that is no pre-release is a developmental release of the release itself
abbrev is_early : Option ℕ → Option ℕ → Bool
is_early None (Some n) = true
is_early None None = false
is_early (Some m) dev = false

abbrev plain_stage : Bool → ℕ
plain_stage true = 0
plain_stage false = 4

abbrev plain_bytes : Bool → List ℕ
plain_bytes true = 0x10 ∷ []
plain_bytes false = 0x50 ∷ []

record Plain (post dev : Option ℕ) : Type 0 where
  stage_is : stage_of None post dev ≡ plain_stage (is_early post dev)
  bytes_are : stage_bytes_of None post dev ≡ plain_bytes (is_early post dev)

plain : (post dev : Option ℕ) → Plain post dev
plain None None = record { stage_is = refl; bytes_are = refl }
plain None (Some n) = record { stage_is = refl; bytes_are = refl }
plain (Some m) dev = record { stage_is = refl; bytes_are = refl }

-- a pre-release beside another version, and the other way
phase_beside : (p : Phase) (n : ℕ) (early : Bool) (s t : List ℕ)
    → (byte_cmp ((phase_byte p ∷ number_bytes n) ++ s) (plain_bytes early ++ t)
    ≡ ordering_then (ordering_then (nat_cmp (phase_rank p) (plain_stage early)) (nat_cmp n 0)) (byte_cmp s t))
    × (byte_cmp (plain_bytes early ++ t) ((phase_byte p ∷ number_bytes n) ++ s)
    ≡ ordering_then (ordering_then (nat_cmp (plain_stage early) (phase_rank p)) (nat_cmp 0 n)) (byte_cmp t s))
phase_beside Alpha n true s t = (refl, refl)
phase_beside Alpha n false s t = (refl, refl)
phase_beside Beta n true s t = (refl, refl)
phase_beside Beta n false s t = (refl, refl)
phase_beside Rc n true s t = (refl, refl)
phase_beside Rc n false s t = (refl, refl)

no_phase : (early early' : Bool) (s t : List ℕ) → byte_cmp (plain_bytes early ++ s) (plain_bytes early' ++ t)
    ≡ ordering_then (ordering_then (nat_cmp (plain_stage early) (plain_stage early')) (nat_cmp 0 0)) (byte_cmp s t)
no_phase true true s t = refl
no_phase true false s t = refl
no_phase false true s t = refl
no_phase false false s t = refl

stages_lead : (p q : Option (Phase × ℕ)) (post dev post' dev' : Option ℕ) → IfSome p (λ x. Fits x.1) → IfSome q (λ x. Fits x.1) → (s t : List ℕ)
    → byte_cmp (stage_bytes_of p post dev ++ s) (stage_bytes_of q post' dev' ++ t) ≡ ordering_then (stage_step p post dev q post' dev') (byte_cmp s t)
stages_lead None None post dev post' dev' h g s t =
    let e = plain post dev in
    let f = plain post' dev' in
    (λ i. byte_cmp (e.bytes_are i ++ s) (f.bytes_are i ++ t))
    ∙ no_phase (is_early post dev) (is_early post' dev') s t
    ∙ (λ i. ordering_then (ordering_then (nat_cmp (sym e.stage_is i) (sym f.stage_is i)) (nat_cmp 0 0)) (byte_cmp s t))
stages_lead (Some p) None post dev post' dev' h g s t =
    let f = plain post' dev' in
    (λ i. byte_cmp ((phase_byte p.0 ∷ number_bytes p.1) ++ s) (f.bytes_are i ++ t))
    ∙ (phase_beside p.0 p.1 (is_early post' dev') s t).0
    ∙ (λ i. ordering_then (ordering_then (nat_cmp (phase_rank p.0) (sym f.stage_is i)) (nat_cmp p.1 0)) (byte_cmp s t))
stages_lead None (Some q) post dev post' dev' h g s t =
    let e = plain post dev in
    (λ i. byte_cmp (e.bytes_are i ++ s) ((phase_byte q.0 ∷ number_bytes q.1) ++ t))
    ∙ (phase_beside q.0 q.1 (is_early post dev) t s).1
    ∙ (λ i. ordering_then (ordering_then (nat_cmp (sym e.stage_is i) (phase_rank q.0)) (nat_cmp 0 q.1)) (byte_cmp s t))
stages_lead (Some p) (Some q) post dev post' dev' h g s t =
    (λ i. ordering_then (phase_bytes-cmp p.0 q.0 i) (number_bytes-leads.by p.1 q.1 h g s t i))
    ∙ sym (then_assoc (nat_cmp (phase_rank p.0) (phase_rank q.0)) (nat_cmp p.1 q.1) (byte_cmp s t))

-- ---- the other parts

posts_lead : (x y : Option ℕ) → IfSome x Fits → IfSome y Fits → (s t : List ℕ)
    → byte_cmp (post_bytes x ++ s) (post_bytes y ++ t) ≡ ordering_then (option_cmp nat_cmp x y) (byte_cmp s t)
posts_lead None None h g s t = refl
posts_lead None (Some n) h g s t = refl
posts_lead (Some m) None h g s t = refl
posts_lead (Some m) (Some n) h g s t = number_bytes-leads.by m n h g s t

devs_lead : (x y : Option ℕ) → IfSome x Fits → IfSome y Fits → (s t : List ℕ)
    → byte_cmp (dev_bytes x ++ s) (dev_bytes y ++ t) ≡ ordering_then (dev_cmp x y) (byte_cmp s t)
devs_lead None None h g s t = refl
devs_lead None (Some n) h g s t = refl
devs_lead (Some m) None h g s t = refl
devs_lead (Some m) (Some n) h g s t = number_bytes-leads.by m n h g s t

segments_lead : (x y : Segment) → WholeSegment x → WholeSegment y → (s t : List ℕ)
    → byte_cmp (segment_bytes x ++ s) (segment_bytes y ++ t) ≡ ordering_then (segment_cmp x y) (byte_cmp s t)
segments_lead (word a) (word b) h g s t = words_lead.by a b (word_bytes a ((and_parts _ _ h.0).0)) (word_bytes b ((and_parts _ _ g.0).0)) s t
segments_lead (word a) (number n) h g s t = refl
segments_lead (number m) (word b) h g s t = refl
segments_lead (number m) (number n) h g s t = number_bytes-leads.by m n h.1 g.1 s t

pub segment_starts : (x : Segment) → WholeSegment x → Starts (segment_bytes x)
segment_starts (word a) h = omega arith
segment_starts (number n) h = omega arith

labels_lead : (xs ys : List Segment) → AllByRecursion WholeSegment xs → AllByRecursion WholeSegment ys → (s t : List ℕ)
    → byte_cmp (label_bytes xs ++ s) (label_bytes ys ++ t) ≡ ordering_then (slice_cmp segment_cmp xs ys) (byte_cmp s t)
labels_lead [] [] h g s t = refl
labels_lead [] (y ∷ ys) h g s t = refl
labels_lead (x ∷ xs) [] h g s t = refl
labels_lead (x ∷ xs) (y ∷ ys) h g s t = (leads_ended {c = segment_bytes} segment_starts (record { by = segments_lead })).by (x ∷ xs) (y ∷ ys) h g s t

release_numbers_lead : Leads Fits nat_cmp release_number_bytes
release_numbers_lead = record { by = λ x y p q s t. number_bytes-leads.by x y p q s t }

-- ---- the six parts of a key, and the six steps of the order

epoch-leads : Leads IsVersion (on (λ v. v.epoch) nat_cmp) epoch_bytes
epoch-leads = leads_on (λ (v : Version). v.epoch) (λ v h. h.numbers.epoch) number_bytes-leads

shortened_lead : Leads IsVersion (on (λ v. without_end_zeros v.release) (slice_cmp nat_cmp)) release_bytes
shortened_lead =
    leads_on {c = ended release_number_bytes} (λ (v : Version). without_end_zeros v.release) (λ v h. shortened_fits v.release h.numbers.release)
    (leads_ended {c = release_number_bytes} (λ n h. omega arith) release_numbers_lead)

release-leads : Leads IsVersion (on (λ v. v.release) release_cmp) release_bytes
release-leads = record {
  by = λ v w p q s t. shortened_lead.by v w p q s t ∙ ap (λ (r : Ordering). ordering_then r (byte_cmp s t)) (sym (release_cmp-lists v.release w.release));
}

stage-leads : Leads IsVersion (then_cmp (on stage nat_cmp) (on pre_number nat_cmp)) stage_bytes
stage-leads = record {
  by = λ v w p q s t. stages_lead v.pre w.pre v.post v.dev w.post w.dev p.numbers.pre q.numbers.pre s t;
}

post-leads : Leads IsVersion (on (λ v. v.post) (option_cmp nat_cmp)) (λ v. post_bytes v.post)
post-leads = record { by = λ v w p q s t. posts_lead v.post w.post p.numbers.post q.numbers.post s t }

dev-leads : Leads IsVersion (on (λ v. v.dev) dev_cmp) (λ v. dev_bytes v.dev)
dev-leads = record { by = λ v w p q s t. devs_lead v.dev w.dev p.numbers.dev q.numbers.dev s t }

label-leads : Leads IsVersion (on (λ v. v.label) (slice_cmp segment_cmp)) (λ v. label_bytes v.label)
label-leads = record {
  by = λ v w p q s t. labels_lead v.label w.label (whole v.label p.label p.numbers.label) (whole w.label q.label q.numbers.label) s t;
}

pub place-leads : Leads IsVersion place_cmp place_bytes
place-leads = leads_then epoch-leads release-leads

pub suffix-leads : Leads IsVersion suffix_cmp suffix_bytes
suffix-leads = leads_then stage-leads (leads_then post-leads (leads_then dev-leads label-leads))

pub key-leads : Leads IsVersion version_cmp key_bytes
key-leads = leads_then place-leads suffix-leads

-- two keys are the same bytes exactly if the two versions are the same in order
pub key-same : (v w : Version) → IsVersion v → IsVersion w → (key_bytes v ≡ key_bytes w) ↔ Same v w
key-same v w p q = (
  λ e. sym (order-leads key-leads v w p q) ∙ ap (byte_cmp (key_bytes v)) (sym e) ∙ tied_itself nat_list_cmp_total (key_bytes v),
  λ same. slice_cmp-IsAntisymmetric nat_cmp-IsAntisymmetric _ _ (order-leads key-leads v w p q ∙ same),
)

pub parts-keep : PartsKeepOrder
parts-keep = record {
  epoch = keeps-leads epoch-leads;
  release = keeps-leads release-leads;
  stage = keeps-leads stage-leads;
  post = keeps-leads post-leads;
  dev = keeps-leads dev-leads;
  label = keeps-leads label-leads;
}

pub keys-keep : KeysKeepOrder
keys-keep = record {
  keeps = keeps-leads key-leads;
  place = λ v w p q. (
    λ e. (Same-place_of v w p.release q.release).0 ((key-same v w p q).0 e),
    λ e. (key-same v w p q).1 ((Same-place_of v w p.release q.release).1 e),
  );
}
