-- The place directly after a version and all its local version labels: under it are the versions
-- that are not above that version ("Inclusive ordered comparison"), where their numbers fit.
use Rattle.std.proofs.Common.{◌≡◌, ℕ, ◌+◌, Bool, true, false, not, List, [], Option, Some, None}
use Rattle.std.proofs.Common.{IfSome, nat_lt, refl, sym, ap, subst, ◌∙◌}
use Rattle.std.specs.Cmp.Lexicographic.{slice_cmp}
use Rattle.std.specs.Option.{option_cmp}
use Rattle.std.specs.Ordering.{is_lt, nat_cmp, ordering_then}
use Rattle.std.specs.Prelude.{if◌then◌else◌}
use Rattle.std.specs.declared.cmp.Ordering.{Ordering}
use Rattle.std.specs.declared.cmp.Ordering.TheVariants.{Less, Equal}
use Rattle.pep_version.specs.declared.parts.Phase.{Phase}
use Rattle.pep_version.specs.declared.parts.Phase.TheVariants.{Alpha, Beta, Rc}
use Rattle.pep_version.specs.Laws.{place_total}
use Rattle.pep_version.specs.Order.{dev_cmp, is_below, phase_rank, place_cmp, pre_number_of}
use Rattle.pep_version.specs.Order.{public_version, release_cmp, segment_cmp, stage_of}
use Rattle.pep_version.specs.Version.{Fits, IsVersion, NumbersFit, Segment, Version}
use Rattle.pep_clause.specs.Cut.{is_under}
use Rattle.pep_clause.proofs.UnderCut.{is_under-cut_cmp}
use Rattle.pep_clause.specs.OperatorTable.{after_last_dev, before_place, done, done_at, last, next}
use Rattle.pep_clause.specs.OperatorTable.{next_phase, past_release, with_dev, with_post, with_pre}
use Rattle.pep_clause.proofs.OrderRows.{Turned, dev-not_below_first, pair_turned, label-not_below}
use Rattle.pep_clause.proofs.OrderRows.{nat_turned, next_number, no_dev-not_below, none-above_last}
use Rattle.pep_clause.proofs.OrderRows.{option_turned, post-not_above_last, post-not_below}
use Rattle.pep_clause.proofs.OrderRows.{stage_turned, then_assoc, then_neither, then_turned}
use Rattle.pep_clause.proofs.OrderRows.{zero-above_none, PreFits}
use Rattle.pep_clause.proofs.Rows.{is_below-place_of, release_cmp-short}

-- what is behind the place, of two versions with these parts
abbrev pub behind : Option (Phase × ℕ) → Option ℕ → Option ℕ → Option (Phase × ℕ) → Option ℕ →
    Option ℕ → Ordering → Ordering
behind p q d pre post dev label =
    ordering_then (ordering_then (nat_cmp (stage_of p q d) (stage_of pre post dev))
    (nat_cmp (pre_number_of p) (pre_number_of pre)))
    (ordering_then (option_cmp nat_cmp q post) (ordering_then (dev_cmp d dev) label))

-- the comparison of a label with none
abbrev labelled : List Segment → Ordering
labelled label = slice_cmp segment_cmp label []

-- ---- the next developmental release

same_stage : (p : Option (Phase × ℕ)) (q : Option ℕ) (m n : ℕ) →
    stage_of p q (Some m) ≡ stage_of p q (Some n)
same_stage None None m n = refl
same_stage None (Some k) m n = refl
same_stage (Some p) q m n = refl

dev_step : (n : ℕ) (dev : Option ℕ) (label : List Segment)
    → Turned (ordering_then (dev_cmp dev (Some (n + 1))) (labelled label))
    (ordering_then (dev_cmp (Some n) dev) Equal)
dev_step n None label = refl
dev_step n (Some m) label = next_number m n (labelled label) Equal (label-not_below label) refl

next_dev : (p : Option (Phase × ℕ)) (q : Option ℕ) (n : ℕ) (pre : Option (Phase
    × ℕ)) (post dev : Option ℕ) (label : List Segment)
    → Turned (behind pre post dev p q (Some (n + 1)) (labelled label))
    (behind p q (Some n) pre post dev Equal)
next_dev p q n pre post dev label =
    rw (same_stage p q (n + 1) n)
    (stage_turned (stage_of pre post dev) (stage_of p q (Some n)) (pre_number_of pre)
    (pre_number_of p) _ _
    (option_turned post q _ _ (dev_step n dev label)))

-- ---- behind the last developmental release

-- the parts without a developmental release part, in the stage of those with one
no_dev_step : (n : ℕ) (dev : Option ℕ) (label : List Segment) → nat_lt n last ≡ false →
    IfSome dev Fits
    → Turned (ordering_then (dev_cmp dev None) (labelled label))
    (ordering_then (dev_cmp (Some n) dev) Equal)
no_dev_step n None label e h = label-not_below label
no_dev_step n (Some m) label e h =
    ap not (sym (then_neither (nat_cmp n m) Equal (none-above_last n m e h) refl))

no_dev : (p : Option (Phase × ℕ)) (q : Option ℕ) (n : ℕ) (pre : Option (Phase
    × ℕ)) (post dev : Option ℕ) (label : List Segment)
    → nat_lt n last ≡ false → IfSome dev Fits → stage_of p q None ≡ stage_of p q (Some n)
    → Turned (behind pre post dev p q None (labelled label))
    (behind p q (Some n) pre post dev Equal)
no_dev p q n pre post dev label e h same =
    rw same
    (stage_turned (stage_of pre post dev) (stage_of p q (Some n)) (pre_number_of pre)
    (pre_number_of p) _ _
    (option_turned post q _ _ (no_dev_step n dev label e h)))

-- not below the first pre-release of a phase, in that phase
number_not_below : (n : ℕ) (post dev : Option ℕ) (label : List Segment)
    → is_lt (ordering_then (nat_cmp n 0) (ordering_then (option_cmp nat_cmp post None)
    (ordering_then (dev_cmp dev (Some 0)) (labelled label)))) ≡ false
number_not_below n post dev label =
    then_neither (nat_cmp n 0) _ (zero-above_none n)
    (then_neither (option_cmp nat_cmp post None) _ (post-not_below post)
    (then_neither (dev_cmp dev (Some 0)) (labelled label) (dev-not_below_first dev)
    (label-not_below label)))

-- the developmental releases of a release are below its first alpha
first_alpha : (n : ℕ) (pre : Option (Phase × ℕ)) (post dev : Option ℕ) (label : List Segment) →
    nat_lt n last ≡ false → IfSome dev Fits
    → Turned (behind pre post dev (Some (Alpha, 0)) None (Some 0) (labelled label))
    (behind None None (Some n) pre post dev Equal)
first_alpha n None None None label e h = refl
first_alpha n None None (Some m) label e h =
    ap not (sym (then_neither (nat_cmp n m) Equal (none-above_last n m e h) refl))
first_alpha n None (Some k) dev label e h = refl
first_alpha n (Some (Alpha, k)) post dev label e h = number_not_below k post dev label
first_alpha n (Some (Beta, k)) post dev label e h = refl
first_alpha n (Some (Rc, k)) post dev label e h = refl

-- ---- the next post-release

first_post_step : (post dev : Option ℕ) (label : List Segment)
    → Turned (ordering_then (option_cmp nat_cmp post (Some 0))
    (ordering_then (dev_cmp dev (Some 0)) (labelled label)))
    (ordering_then (option_cmp nat_cmp None post) (ordering_then (dev_cmp None dev) Equal))
first_post_step None dev label =
    ap not (sym (then_neither (dev_cmp None dev) Equal (no_dev-not_below dev) refl))
first_post_step (Some n) dev label =
    then_neither (nat_cmp n 0) _ (zero-above_none n)
    (then_neither (dev_cmp dev (Some 0)) (labelled label) (dev-not_below_first dev)
    (label-not_below label))

first_stage : (p : Option (Phase × ℕ)) → stage_of p (Some 0) (Some 0) ≡ stage_of p None None
first_stage None = refl
first_stage (Some p) = refl

first_post : (p pre : Option (Phase × ℕ)) (post dev : Option ℕ) (label : List Segment)
    → Turned (behind pre post dev p (Some 0) (Some 0) (labelled label))
    (behind p None None pre post dev Equal)
first_post p pre post dev label =
    rw (first_stage p)
    (stage_turned (stage_of pre post dev) (stage_of p None None) (pre_number_of pre)
    (pre_number_of p) _ _
    (first_post_step post dev label))

post_step : (n : ℕ) (post dev : Option ℕ) (label : List Segment)
    → Turned (ordering_then (option_cmp nat_cmp post (Some (n + 1)))
    (ordering_then (dev_cmp dev (Some 0)) (labelled label)))
    (ordering_then (option_cmp nat_cmp (Some n) post) (ordering_then (dev_cmp None dev) Equal))
post_step n None dev label = refl
post_step n (Some m) dev label =
    next_number m n _ _ (then_neither (dev_cmp dev (Some 0)) (labelled label)
    (dev-not_below_first dev) (label-not_below label))
    (then_neither (dev_cmp None dev) Equal (no_dev-not_below dev) refl)

post_stage : (p : Option (Phase × ℕ)) (n : ℕ) → stage_of p (Some (n + 1)) (Some 0)
    ≡ stage_of p (Some n) None
post_stage None n = refl
post_stage (Some p) n = refl

next_post : (p : Option (Phase × ℕ)) (n : ℕ) (pre : Option (Phase
    × ℕ)) (post dev : Option ℕ) (label : List Segment)
    → Turned (behind pre post dev p (Some (n + 1)) (Some 0) (labelled label))
    (behind p (Some n) None pre post dev Equal)
next_post p n pre post dev label =
    rw (post_stage p n)
    (stage_turned (stage_of pre post dev) (stage_of p (Some n) None) (pre_number_of pre)
    (pre_number_of p) _ _
    (post_step n post dev label))

-- ---- behind the last post-release

-- what has this post-release number or a smaller one, and the parts before it alike, is not above
pub last_post_not_below : (n : ℕ) (post dev : Option ℕ) → nat_lt n last ≡ false → IfSome post Fits
    → is_lt (ordering_then (option_cmp nat_cmp (Some n) post)
    (ordering_then (dev_cmp None dev) Equal)) ≡ false
last_post_not_below n post dev e h =
    then_neither (option_cmp nat_cmp (Some n) post) _ (post-not_above_last n post e h)
    (then_neither (dev_cmp None dev) Equal (no_dev-not_below dev) refl)

-- the next pre-release of the phase
next_pre : (phase : Phase) (k n : ℕ) (pre : Option (Phase × ℕ)) (post dev : Option ℕ)
    (label : List Segment) → nat_lt n last ≡ false → IfSome post Fits
    → Turned (behind pre post dev (Some (phase, k + 1)) None (Some 0) (labelled label))
    (behind (Some (phase, k)) (Some n) None pre post dev Equal)
next_pre phase k n pre post dev label e h =
    pair_turned (nat_cmp (stage_of pre post dev) (phase_rank phase))
    (nat_cmp (pre_number_of pre) (k + 1)) (nat_cmp (phase_rank phase) (stage_of pre post dev))
    (nat_cmp k (pre_number_of pre)) _ _
    (nat_turned (stage_of pre post dev) (phase_rank phase) _ _
    (next_number (pre_number_of pre) k _ _
    (then_neither (option_cmp nat_cmp post None) _ (post-not_below post)
    (then_neither (dev_cmp dev (Some 0)) (labelled label) (dev-not_below_first dev)
    (label-not_below label)))
    (last_post_not_below n post dev e h)))

-- of the same phase, with a pre-release number that is not below the last
last_pre_not_above : (k m n : ℕ) (post dev : Option ℕ) → nat_lt k last ≡ false →
    nat_lt n last ≡ false → Fits m → IfSome post Fits
    → is_lt (ordering_then (nat_cmp k m) (ordering_then (option_cmp nat_cmp (Some n) post)
    (ordering_then (dev_cmp None dev) Equal))) ≡ false
last_pre_not_above k m n post dev d e g h =
    then_neither (nat_cmp k m) _ (none-above_last k m d g) (last_post_not_below n post dev e h)

-- behind the last alpha stands the first beta, and behind the last beta the first release candidate
first_beta : (k n : ℕ) (pre : Option (Phase × ℕ)) (post dev : Option ℕ) (label : List Segment)
    → nat_lt k last ≡ false → nat_lt n last ≡ false → PreFits pre → IfSome post Fits
    → Turned (behind pre post dev (Some (Beta, 0)) None (Some 0) (labelled label))
    (behind (Some (Alpha, k)) (Some n) None pre post dev Equal)
first_beta k n None None None label d e g h = refl
first_beta k n None None (Some m) label d e g h = refl
first_beta k n None (Some m) dev label d e g h = refl
first_beta k n (Some (Alpha, m)) post dev label d e g h =
    ap not (sym (last_pre_not_above k m n post dev d e g h))
first_beta k n (Some (Beta, m)) post dev label d e g h = number_not_below m post dev label
first_beta k n (Some (Rc, m)) post dev label d e g h = refl

first_candidate : (k n : ℕ) (pre : Option (Phase × ℕ)) (post dev : Option ℕ) (label : List Segment)
    → nat_lt k last ≡ false → nat_lt n last ≡ false → PreFits pre → IfSome post Fits
    → Turned (behind pre post dev (Some (Rc, 0)) None (Some 0) (labelled label))
    (behind (Some (Beta, k)) (Some n) None pre post dev Equal)
first_candidate k n None None None label d e g h = refl
first_candidate k n None None (Some m) label d e g h = refl
first_candidate k n None (Some m) dev label d e g h = refl
first_candidate k n (Some (Alpha, m)) post dev label d e g h = refl
first_candidate k n (Some (Beta, m)) post dev label d e g h =
    ap not (sym (last_pre_not_above k m n post dev d e g h))
first_candidate k n (Some (Rc, m)) post dev label d e g h = number_not_below m post dev label

-- behind the last release candidate stands the release
release_itself : (k n : ℕ) (pre : Option (Phase × ℕ)) (post dev : Option ℕ) (label : List Segment)
    → nat_lt k last ≡ false → nat_lt n last ≡ false → PreFits pre → IfSome post Fits
    → Turned (behind pre post dev None None None (labelled label))
    (behind (Some (Rc, k)) (Some n) None pre post dev Equal)
release_itself k n None None None label d e g h = label-not_below label
release_itself k n None None (Some m) label d e g h = refl
release_itself k n None (Some m) dev label d e g h = refl
release_itself k n (Some (Alpha, m)) post dev label d e g h = refl
release_itself k n (Some (Beta, m)) post dev label d e g h = refl
release_itself k n (Some (Rc, m)) post dev label d e g h =
    ap not (sym (last_pre_not_above k m n post dev d e g h))

-- no version of the release is above its last post-release
none_past : (n : ℕ) (pre : Option (Phase × ℕ)) (post dev : Option ℕ) → nat_lt n last ≡ false →
    IfSome post Fits
    → is_lt (behind None (Some n) None pre post dev Equal) ≡ false
none_past n None None None e h = refl
none_past n None None (Some m) e h = refl
none_past n None (Some m) dev e h = last_post_not_below n (Some m) dev e h
none_past n (Some (Alpha, k)) post dev e h = refl
none_past n (Some (Beta, k)) post dev e h = refl
none_past n (Some (Rc, k)) post dev e h = refl

-- ---- the cut

-- a version with these parts and no label
abbrev pub parts : ℕ → List ℕ → Option (Phase × ℕ) → Option ℕ → Option ℕ → Version
parts e r p q d = record { epoch = e; release = r; pre = p; post = q; dev = d; label = [] }

-- what stands directly above is told behind the place
above_by : (e : ℕ) (r : List ℕ) (p : Option (Phase × ℕ)) (q d : Option ℕ) (pre : Option (Phase
    × ℕ)) (post dev : Option ℕ) (v : Version)
    → Turned (behind v.pre v.post v.dev pre post dev (labelled v.label))
    (behind p q d v.pre v.post v.dev Equal)
    → is_under (before_place (parts e r pre post dev)) v
    ≡ not (is_below (parts e r p q d) (public_version v))
above_by e r p q d pre post dev v fact =
    is_below-place_of v (parts e r pre post dev)
    ∙ then_turned (place_cmp v (parts e r p q d)) (place_cmp (parts e r p q d) v) _ _
    (place_total.antisymm (parts e r p q d) v) fact

-- the same of the cut past a release
past_by : (e : ℕ) (r : List ℕ) (p : Option (Phase × ℕ)) (q d : Option ℕ) (v : Version)
    → is_lt (behind p q d v.pre v.post v.dev Equal) ≡ false
    → is_under (past_release (parts e r p None None)) v
    ≡ not (is_below (parts e r p q d) (public_version v))
past_by e r p q d v fact =
    is_under-cut_cmp (past_release (parts e r p None None)) v
    ∙ (λ i. is_lt (ordering_then (nat_cmp v.epoch e) (ordering_then
    (release_cmp-short v.release r i) Less)))
    ∙ ap is_lt (sym (then_assoc (nat_cmp v.epoch e) (release_cmp v.release r) Less))
    ∙ then_turned (place_cmp v (parts e r p q d)) (place_cmp (parts e r p q d) v) Less _
    (place_total.antisymm (parts e r p q d) v) (ap not (sym fact))

dev_by : (b : Bool) (e : ℕ) (r : List ℕ) (p : Option (Phase × ℕ)) (q : Option ℕ) (n : ℕ)
    (v : Version) → nat_lt n last ≡ b → NumbersFit v
    → is_under (if b then before_place (with_dev (n + 1) (parts e r p q (Some n)))
    else after_last_dev p q (parts e r p q (Some n))) v
    ≡ not (is_below (parts e r p q (Some n)) (public_version v))
dev_by true e r p q n v b h =
    above_by e r p q (Some n) p q (Some (n + 1)) v (next_dev p q n v.pre v.post v.dev v.label)
dev_by false e r None None n v b h =
    above_by e r None None (Some n) (Some (Alpha, 0)) None (Some 0) v
    (first_alpha n v.pre v.post v.dev v.label b h.dev)
dev_by false e r None (Some m) n v b h =
    above_by e r None (Some m) (Some n) None (Some m) None v
    (no_dev None (Some m) n v.pre v.post v.dev v.label b h.dev refl)
dev_by false e r (Some p) q n v b h =
    above_by e r (Some p) q (Some n) (Some p) q None v
    (no_dev (Some p) q n v.pre v.post v.dev v.label b h.dev refl)

done_by : (b : Bool) (e : ℕ) (r : List ℕ) (phase : Phase) (k n : ℕ) (v : Version) →
    nat_lt k last ≡ b → nat_lt n last ≡ false → NumbersFit v
    → is_under (if b then before_place (with_dev 0 (with_pre phase (k
    + 1) (parts e r (Some (phase, k)) None None)))
    else next_phase phase (parts e r (Some (phase, k)) None None)) v
    ≡ not (is_below (parts e r (Some (phase, k)) (Some n) None) (public_version v))
done_by true e r phase k n v b c h =
    above_by e r (Some (phase, k)) (Some n) None (Some (
      phase,
      k + 1,
    )) None (Some 0) v (next_pre phase k n v.pre v.post v.dev v.label c h.post)
done_by false e r Alpha k n v b c h =
    above_by e r (Some (Alpha, k)) (Some n) None (Some (
      Beta,
      0,
    )) None (Some 0) v (first_beta k n v.pre v.post v.dev v.label b c h.pre h.post)
done_by false e r Beta k n v b c h =
    above_by e r (Some (Beta, k)) (Some n) None (Some (Rc, 0)) None (Some 0) v
    (first_candidate k n v.pre v.post v.dev v.label b c h.pre h.post)
done_by false e r Rc k n v b c h =
    above_by e r (Some (Rc, k)) (Some n) None None None None v
    (release_itself k n v.pre v.post v.dev v.label b c h.pre h.post)

-- behind a version's last post-release
pub done-under : (e : ℕ) (r : List ℕ) (p : Option (Phase × ℕ)) (n : ℕ) (v : Version) →
    nat_lt n last ≡ false → NumbersFit v
    → is_under (done_at p (parts e r p None None)) v
    ≡ not (is_below (parts e r p (Some n) None) (public_version v))
done-under e r None n v c h =
    past_by e r None (Some n) None v (none_past n v.pre v.post v.dev c h.post)
done-under e r (Some (phase, k)) n v c h = done_by (nat_lt k last) e r phase k n v refl c h

post_by : (b : Bool) (e : ℕ) (r : List ℕ) (p : Option (Phase × ℕ)) (n : ℕ) (v : Version) →
    nat_lt n last ≡ b → NumbersFit v
    → is_under (if b then before_place (with_dev 0 (with_post (n + 1) (parts e r p (Some n) None)))
    else done (parts e r p (Some n) None)) v
    ≡ not (is_below (parts e r p (Some n) None) (public_version v))
post_by true e r p n v b h =
    above_by e r p (Some n) None p (Some (n + 1)) (Some 0) v
    (next_post p n v.pre v.post v.dev v.label)
post_by false e r p n v b h = done-under e r p n v b h

pub next_by : (e : ℕ) (r : List ℕ) (p : Option (Phase × ℕ)) (q d : Option ℕ) (v : Version) →
    NumbersFit v
    → is_under (next (parts e r p q d)) v ≡ not (is_below (parts e r p q d) (public_version v))
next_by e r p None None v h =
    above_by e r p None None p (Some 0) (Some 0) v (first_post p v.pre v.post v.dev v.label)
next_by e r p (Some n) None v h = post_by (nat_lt n last) e r p n v refl h
next_by e r p q (Some n) v h = dev_by (nat_lt n last) e r p q n v refl h

-- a statement on a version without label is one on its parts
pub without_label : (P : Version → Type 0) (w : Version) → w.label ≡ [] →
    P (parts w.epoch w.release w.pre w.post w.dev) → P w
without_label P w none = subst (λ (l : List Segment). P (record w { label = l })) (sym none)

-- under the place directly after a version is what is not above it, labels apart
pub next-under : (w v : Version) → IsVersion v → w.label ≡ [] →
    is_under (next w) v ≡ not (is_below w (public_version v))
next-under w v h none =
    without_label (λ u. is_under (next u) v ≡ not (is_below u (public_version v))) w none
    (next_by w.epoch w.release w.pre w.post w.dev v h.numbers)
