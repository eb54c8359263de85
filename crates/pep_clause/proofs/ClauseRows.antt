-- The ranges of `<=`, `>`, `<`, `==` and `!=` hold what these clauses admit, and they are normal
-- lists.
use Rattle.std.proofs.Common.{◌≡◌, ◌&&◌, Bool, true, false, not, List, [], ◌∷◌, refl, sym, ap, ◌∙◌}
use Rattle.std.specs.Cmp.{tied_itself}
use Rattle.std.specs.Ordering.{is_eq, is_le, is_lt, nat_cmp, ordering_reverse, ordering_then}
use Rattle.std.specs.Prelude.{if◌then◌else◌}
use Rattle.std.specs.declared.cmp.Ordering.{Ordering}
use Rattle.std.specs.declared.cmp.Ordering.TheVariants.{Less, Equal, Greater}
use Rattle.pep_version.specs.Laws.{version_total}
use Rattle.pep_version.specs.Order.{is_below, is_same, place_of, public_version, suffix_cmp}
use Rattle.pep_version.specs.Order.{version_cmp}
use Rattle.pep_version.specs.Version.{IsVersion, Segment, Version}
use Rattle.texts.specs.Lists.{is_empty}
use Rattle.specifiers.specs.Admits.{admits}
use Rattle.pep_clause.proofs.Between.{less_told, not_below_itself}
use Rattle.specifiers.specs.Clause.{at_most, excluding, greater_than, less_than, matching}
use Rattle.pep_clause.specs.Cut.{after, cut_cmp, end, is_under, least}
use Rattle.pep_clause.proofs.UnderCut.{is_under-cut_cmp}
use Rattle.pep_clause.specs.OperatorTable.{before_place, greater_from, less_to, matching_to, next}
use Rattle.pep_clause.specs.OperatorTable.{set_of}
use Rattle.pep_clause.specs.VersionSet.{IsNormal, is_in}
use Rattle.pep_clause.proofs.NextPlace.{next-under}
use Rattle.pep_clause.proofs.NormalJoined.{IsNormal-range}
use Rattle.pep_clause.proofs.PlaceCuts.{IsCut-greater_from, IsCut-least, IsCut-less_to}
use Rattle.pep_clause.proofs.PlaceCuts.{IsCut-matching_to, IsCut-next}
use Rattle.pep_clause.proofs.RangeRows.{IsNormal-outside, outside-row, range-row}
use Rattle.pep_clause.proofs.Rows.{IsCut-before_place, is_below-place_of, is_below-public}
use Rattle.pep_clause.proofs.Rows.{is_in-from_least, release_cmp-short}
use Rattle.pep_version.proofs.PlaceLemmas.{place-version}
use Rattle.pep_clause.proofs.StrictPlaces.{greater-under, less-under}
use Rattle.texts.proofs.Connectives.{not-not}

-- ---- at most, more than and less than a version

-- `<=` of a version without a label
pub at_most-row : (w v : Version) → IsVersion v → w.label ≡ [] →
    is_in (set_of (at_most w)) v ≡ admits (at_most w) v
at_most-row w v h none = is_in-from_least (next w) v ∙ next-under w v h none

pub at_most-normal : (w : Version) → IsVersion w → IsNormal (set_of (at_most w))
at_most-normal w h = IsNormal-range least (next w) IsCut-least (IsCut-next w h)

-- `>` of a version without a label
pub greater_than-row : (w v : Version) → IsVersion v → w.label ≡ [] →
    is_in (set_of (greater_than w)) v ≡ admits (greater_than w) v
greater_than-row w v h none =
    range-row (greater_from w) end v
    ∙ ap not (greater-under w v h none)
    ∙ not-not (admits (greater_than w) v)

pub greater_than-normal : (w : Version) → IsVersion w → IsNormal (set_of (greater_than w))
greater_than-normal w h = IsNormal-range (greater_from w) end (IsCut-greater_from w h) tt

-- `<` of a version without a label
pub less_than_version-row : (w v : Version) → w.label ≡ [] →
    is_in (set_of (less_than w)) v ≡ admits (less_than w) v
less_than_version-row w v none = is_in-from_least (less_to w) v ∙ less-under w v none

pub less_than_version-normal : (w : Version) → IsVersion w → IsNormal (set_of (less_than w))
less_than_version-normal w h = IsNormal-range least (less_to w) IsCut-least (IsCut-less_to w h)

-- ---- the same as a version, and not the same

neither_below : (r s : Ordering) → r ≡ ordering_reverse s →
    (not (is_lt r) && not (is_lt s)) ≡ is_eq s
neither_below r Less e = rw e refl
neither_below r Equal e = rw e refl
neither_below r Greater e = rw e refl

not_above-not_below : (r : Ordering) → (is_le r && not (is_lt r)) ≡ is_eq r
not_above-not_below Less = refl
not_above-not_below Equal = refl
not_above-not_below Greater = refl

-- a comparison looks at the place of a version alone
pub version_cmp-place : (v w : Version) → version_cmp v (place_of w) ≡ version_cmp v w
version_cmp-place v w =
    λ i. ordering_then (ordering_then (nat_cmp v.epoch w.epoch)
    (release_cmp-short v.release w.release i)) (suffix_cmp v w)

no_label : (label : List Segment) → is_empty label ≡ true → label ≡ []
no_label [] e = refl
no_label (s ∷ rest) e = cc e

matching_by : (b : Bool) (w v : Version) → is_empty w.label ≡ b → IsVersion v
    → (is_under (if b then next w else after (place_of w)) v && not (is_under (before_place w) v))
    ≡ (if b then is_same (public_version v) w else is_same v w)
matching_by true w v e h =
    let none = no_label w.label e in
    (λ i. next-under w v h none i && not (is_below-place_of v w i))
    ∙ (λ i. not (is_below w (public_version v)) && not (is_below-public v w none i))
    ∙ neither_below (version_cmp w (public_version v)) (version_cmp (public_version v) w)
    (version_total.antisymm w (public_version v))
matching_by false w v e h =
    not_above-not_below (version_cmp v (place_of w))
    ∙ ap is_eq (version_cmp-place v w)

-- `==` of a version, with a label and without
pub matching-row : (w v : Version) → IsVersion v → is_in (set_of (matching w)) v
    ≡ admits (matching w) v
matching-row w v h =
    range-row (before_place w) (matching_to w) v ∙ matching_by (is_empty w.label) w v refl h

pub matching-normal : (w : Version) → IsVersion w → IsNormal (set_of (matching w))
matching-normal w h =
    IsNormal-range (before_place w) (matching_to w) (IsCut-before_place w h) (IsCut-matching_to w h)

-- `!=` of a version, with a label and without
pub excluding-row : (w v : Version) → IsVersion v → is_in (set_of (excluding w)) v
    ≡ admits (excluding w) v
excluding-row w v h = outside-row (before_place w) (matching_to w) v ∙ ap not (matching-row w v h)

-- a version is under the cut where its `==` ends
holds_itself : (b : Bool) (w : Version) → is_empty w.label ≡ b → IsVersion w →
    is_under (if b then next w else after (place_of w)) (place_of w) ≡ true
holds_itself true w e h =
    let none = no_label w.label e in
    next-under w (place_of w) (place-version w h) none
    ∙ (λ i. not (is_below w (record (place_of w) { label = sym none i })))
    ∙ ap not (is_below-place_of w w ∙ not_below_itself version_total w)
holds_itself false w e h = ap is_le (tied_itself version_total (place_of w))

-- so the cuts of `==` are in order
pub matching-in_order : (w : Version) → IsVersion w → cut_cmp (before_place w) (matching_to w)
    ≡ Less
matching-in_order w h =
    less_told (cut_cmp (before_place w) (matching_to w))
    (sym (is_under-cut_cmp (matching_to w) (place_of w)) ∙ holds_itself (is_empty w.label) w refl h)

pub excluding-normal : (w : Version) → IsVersion w → IsNormal (set_of (excluding w))
excluding-normal w h =
    IsNormal-outside (before_place w) (matching_to w) (IsCut-before_place w h)
    (IsCut-matching_to w h) (matching-in_order w h)
