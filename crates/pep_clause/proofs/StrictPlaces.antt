-- Where `>` begins and where `<` ends ("Exclusive ordered comparison"), for any version without
-- label.
use Rattle.std.proofs.Common.{◌≡◌, ℕ, ◌&&◌, ◌||◌, Bool, true, false, not, List, [], Option, Some}
use Rattle.std.proofs.Common.{None, IfSome, is_some, refl, sym, ap, ◌∙◌}
use Rattle.std.specs.Cmp.{nat_cmp_total}
use Rattle.std.specs.Cmp.Lexicographic.{slice_cmp}
use Rattle.std.specs.Option.{option_cmp}
use Rattle.std.specs.Ordering.{is_eq, is_lt, nat_cmp, ordering_reverse, ordering_then}
use Rattle.std.specs.declared.cmp.Ordering.{Ordering}
use Rattle.std.specs.declared.cmp.Ordering.TheVariants.{Less, Equal, Greater}
use Rattle.pep_version.specs.declared.parts.Phase.{Phase}
use Rattle.pep_version.specs.declared.parts.Phase.TheVariants.{Alpha, Beta, Rc}
use Rattle.pep_version.specs.Laws.{place_total}
use Rattle.pep_version.specs.Order.{dev_cmp, is_below, is_same, phase_rank, place_cmp}
use Rattle.pep_version.specs.Order.{public_version, segment_cmp, without_dev, without_post}
use Rattle.pep_version.specs.Version.{Fits, IsVersion, NumbersFit, Segment, Version, is_pre_release}
use Rattle.specifiers.specs.Admits.{is_post_release_of, is_pre_release_of}
use Rattle.pep_clause.specs.Cut.{is_under}
use Rattle.pep_clause.specs.OperatorTable.{before_place, greater_from, last, less_to, with_dev}
use Rattle.pep_clause.proofs.NextPlace.{behind, done-under, last_post_not_below, next_by, parts}
use Rattle.pep_clause.proofs.NextPlace.{without_label}
use Rattle.pep_clause.proofs.OrderRows.{dev-not_below_first, label-not_below, then_neither}
use Rattle.pep_clause.proofs.Rows.{is_below-place_of, is_below-public, is_in-from_least}
use Rattle.pep_clause.proofs.Rows.{less_than-row}
use Rattle.texts.proofs.Connectives.{and-false, and-true}

-- ---- greater than a version

then_reverse : (a b : Ordering) → ordering_reverse (ordering_then a b)
    ≡ ordering_then (ordering_reverse a) (ordering_reverse b)
then_reverse Less b = refl
then_reverse Equal b = refl
then_reverse Greater b = refl

-- above the last post-release is what is above the release or pre-release and no post-release of
-- it; c compares what is before the post-release part
post_release_by : (c : Ordering) (post dev : Option ℕ) → IfSome post Fits
    → is_lt (ordering_then c (ordering_then (option_cmp nat_cmp (Some last) post)
    (ordering_then (dev_cmp None dev) Equal)))
    ≡ (is_lt (ordering_then c (ordering_then (option_cmp nat_cmp None post)
    (ordering_then (dev_cmp None dev) Equal)))
    && not (is_some post && is_eq (ordering_then (ordering_reverse c) Equal)))
post_release_by Less None dev h = refl
post_release_by Less (Some m) dev h = refl
post_release_by Greater post dev h = refl
post_release_by Equal None None h = refl
post_release_by Equal None (Some n) h = refl
post_release_by Equal (Some m) dev h = last_post_not_below last (Some m) dev refl h

phases_turned : (phase other : Phase) (k m : ℕ)
    → ordering_then (nat_cmp (phase_rank other) (phase_rank phase)) (nat_cmp m k)
    ≡ ordering_reverse (ordering_then (nat_cmp (phase_rank phase) (phase_rank other)) (nat_cmp k m))
phases_turned phase other k m =
    (λ i. ordering_then (nat_cmp_total.antisymm (phase_rank other) (phase_rank phase) i)
    (nat_cmp_total.antisymm m k i))
    ∙ sym (then_reverse (nat_cmp (phase_rank phase) (phase_rank other)) (nat_cmp k m))

-- the same behind the place
above_posts : (p pre : Option (Phase × ℕ)) (post dev : Option ℕ) → IfSome post Fits
    → is_lt (behind p (Some last) None pre post dev Equal)
    ≡ (is_lt (behind p None None pre post dev Equal) && not (is_some post
    && is_eq (behind pre None None p None None Equal)))
above_posts None None None None h = refl
above_posts None None None (Some n) h = refl
above_posts None None (Some m) dev h = last_post_not_below last (Some m) dev refl h
above_posts None (Some (Alpha, k)) post dev h = refl
above_posts None (Some (Beta, k)) post dev h = refl
above_posts None (Some (Rc, k)) post dev h = refl
above_posts (Some (Alpha, k)) None None None h = refl
above_posts (Some (Alpha, k)) None None (Some n) h = refl
above_posts (Some (Alpha, k)) None (Some m) dev h = refl
above_posts (Some (Beta, k)) None None None h = refl
above_posts (Some (Beta, k)) None None (Some n) h = refl
above_posts (Some (Beta, k)) None (Some m) dev h = refl
above_posts (Some (Rc, k)) None None None h = refl
above_posts (Some (Rc, k)) None None (Some n) h = refl
above_posts (Some (Rc, k)) None (Some m) dev h = refl
above_posts (Some (phase, k)) (Some (other, m)) post dev h =
    rw (phases_turned phase other k m) (post_release_by
    (ordering_then (nat_cmp (phase_rank phase) (phase_rank other)) (nat_cmp k m)) post dev h)

-- a place that differs decides alone
placed : (c d : Ordering) (some : Bool) (x y z : Ordering) → d ≡ ordering_reverse c →
    is_lt x ≡ (is_lt y && not (some && is_eq z))
    → is_lt (ordering_then c x) ≡ (is_lt (ordering_then c y)
    && not (some && is_eq (ordering_then d z)))
placed Less d true x y z e f = rw e refl
placed Less d false x y z e f = refl
placed Equal d some x y z e f = rw e f
placed Greater d some x y z e f = refl

-- behind the last post-release of a version without post-release and developmental release part
released_by : (e : ℕ) (r : List ℕ) (p : Option (Phase × ℕ)) (v : Version) → NumbersFit v
    → is_below (parts e r p (Some last) None) (public_version v)
    ≡ (is_below (parts e r p None None) (public_version v)
    && not (is_post_release_of v (parts e r p None None)))
released_by e r p v h =
    placed (place_cmp (parts e r p None None) v) (place_cmp v (parts e r p None None))
    (is_some v.post) _ _ _
    (place_total.antisymm v (parts e r p None None)) (above_posts p v.pre v.post v.dev h.post)

never_same : (a b : Ordering) → is_eq (ordering_then a (ordering_then b Greater)) ≡ false
never_same Less b = refl
never_same Equal Less = refl
never_same Equal Equal = refl
never_same Equal Greater = refl
never_same Greater b = refl

-- a developmental release has no post-release
no_post_release : (b c some : Bool) → c ≡ false → not b ≡ not (b && (false || not (some && c)))
no_post_release b c true e = rw e (ap not (sym (and-true b)))
no_post_release b c false e = ap not (sym (and-true b))

greater_by : (e : ℕ) (r : List ℕ) (p : Option (Phase × ℕ)) (q d : Option ℕ) (v : Version) →
    NumbersFit v
    → is_under (greater_from (parts e r p q d)) v
    ≡ not (is_below (parts e r p q d) (public_version v)
    && (is_some q || not (is_post_release_of v (parts e r p q d))))
greater_by e r p None None v h = done-under e r p last v refl h ∙ ap not (released_by e r p v h)
greater_by e r p (Some n) d v h =
    next_by e r p (Some n) d v h
    ∙ ap not (sym (and-true (is_below (parts e r p (Some n) d) (public_version v))))
greater_by e r p None (Some n) v h =
    next_by e r p None (Some n) v h
    ∙ no_post_release (is_below (parts e r p None (Some n)) (public_version v))
    (is_same (without_post (without_dev (public_version v))) (parts e r p None (Some n)))
    (is_some v.post)
    (never_same _ _)

-- under the cut where `>` begins is what `>` does not admit
pub greater-under : (w v : Version) → IsVersion v → w.label ≡ []
    → is_under (greater_from w) v ≡ not (is_below w (public_version v)
    && (is_some w.post || not (is_post_release_of v w)))
greater-under w v h none =
    without_label (λ u. is_under (greater_from u) v ≡ not (is_below u (public_version v)
    && (is_some u.post || not (is_post_release_of v u)))) w none
    (greater_by w.epoch w.release w.pre w.post w.dev v h.numbers)

-- ---- less than a version

-- below `.dev0` of a post-release is what is below it and no developmental release of it; c
-- compares the post-release parts
first_dev_by : (c : Ordering) (dev : Option ℕ) (label : List Segment)
    → is_lt (ordering_then c (ordering_then (dev_cmp dev (Some 0))
    (slice_cmp segment_cmp label [])))
    ≡ (is_lt (ordering_then c (ordering_then (dev_cmp dev None) Equal))
    && not (is_eq (ordering_then c Equal) || false))
first_dev_by Less dev label = refl
first_dev_by Greater dev label = refl
first_dev_by Equal dev label =
    then_neither (dev_cmp dev (Some 0)) _ (dev-not_below_first dev) (label-not_below label)
    ∙ sym (and-false (is_lt (ordering_then (dev_cmp dev None) Equal)))

below_first_dev : (n : ℕ) (pre : Option (Phase × ℕ)) (post dev : Option ℕ) (label : List Segment)
    → is_lt (behind pre post dev None (Some n) (Some 0) (slice_cmp segment_cmp label []))
    ≡ (is_lt (behind pre post dev None (Some n) None Equal)
    && not (is_eq (behind pre post None None (Some n) None Equal)
    || (is_some pre && is_eq (behind None None None None (Some n) None Equal))))
below_first_dev n None None None label = refl
below_first_dev n None None (Some k) label = refl
below_first_dev n None (Some m) dev label = first_dev_by (nat_cmp m n) dev label
below_first_dev n (Some (Alpha, k)) post dev label = refl
below_first_dev n (Some (Beta, k)) post dev label = refl
below_first_dev n (Some (Rc, k)) post dev label = refl

placed_below : (c : Ordering) (some : Bool) (x y z t : Ordering) →
    is_lt x ≡ (is_lt y && not (is_eq z || (some && is_eq t)))
    → is_lt (ordering_then c x) ≡ (is_lt (ordering_then c y)
    && not (is_eq (ordering_then c z) || (some && is_eq (ordering_then c t))))
placed_below Less true x y z t e = refl
placed_below Less false x y z t e = refl
placed_below Equal some x y z t e = e
placed_below Greater some x y z t e = refl

-- a pre-release keeps its own pre-releases
less_itself : (w v : Version) → w.label ≡ [] → is_pre_release w ≡ true
    → is_under (before_place w) v ≡ (is_below (public_version v) w
    && (is_pre_release w || not (is_pre_release_of v w)))
less_itself w v none e =
    rw e (is_below-place_of v w ∙ is_below-public v w none
    ∙ sym (and-true (is_below (public_version v) w)))

less_by : (e : ℕ) (r : List ℕ) (p : Option (Phase × ℕ)) (q d : Option ℕ) (v : Version)
    → is_under (less_to (parts e r p q d)) v
    ≡ (is_below (public_version v) (parts e r p q d) && (is_pre_release (parts e r p q d)
    || not (is_pre_release_of v (parts e r p q d))))
less_by e r (Some p) q d v = less_itself (parts e r (Some p) q d) v refl refl
less_by e r None q (Some n) v = less_itself (parts e r None q (Some n)) v refl refl
less_by e r None None None v =
    sym (is_in-from_least (less_to (parts e r None None None)) v)
    ∙ less_than-row (record { epoch = e; release = r }) v
less_by e r None (Some n) None v =
    is_below-place_of v (with_dev 0 (parts e r None (Some n) None))
    ∙ placed_below (place_cmp v (parts e r None (Some n) None)) (is_some v.pre) _ _ _ _
    (below_first_dev n v.pre v.post v.dev v.label)

-- under the cut where `<` ends is what `<` admits
pub less-under : (w v : Version) → w.label ≡ []
    → is_under (less_to w) v ≡ (is_below (public_version v) w
    && (is_pre_release w || not (is_pre_release_of v w)))
less-under w v none =
    without_label (λ u. is_under (less_to u) v ≡ (is_below (public_version v) u
    && (is_pre_release u || not (is_pre_release_of v u)))) w none
    (less_by w.epoch w.release w.pre w.post w.dev v)
