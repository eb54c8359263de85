-- The ranges of `>=` and of `<` hold what these clauses admit.
use Rattle.std.proofs.Common.{◌≡◌, ℕ, zero, suc, ◌&&◌, ◌||◌, ◌==◌, Bool, true, false, not}
use Rattle.std.proofs.Common.{List, [], ◌∷◌, Option, Some, None, is_some, nat_lt, refl, sym}
use Rattle.std.proofs.Common.{◌∙◌, arith}
use Rattle.std.specs.Cmp.{nat_cmp_is}
use Rattle.std.specs.Cmp.Lexicographic.{slice_cmp}
use Rattle.std.specs.Option.{option_cmp}
use Rattle.std.specs.Ordering.{is_eq, is_le, is_lt, nat_cmp, ordering_then}
use Rattle.std.specs.Prelude.{if◌then◌else◌}
use Rattle.std.specs.declared.cmp.Ordering.{Ordering}
use Rattle.std.specs.declared.cmp.Ordering.TheVariants.{Less, Equal, Greater}
use Rattle.pep_version.specs.declared.parts.Phase.{Phase}
use Rattle.pep_version.specs.declared.parts.Phase.TheVariants.{Alpha, Beta, Rc}
use Rattle.pep_version.specs.Laws.{release_cmp-lists}
use Rattle.pep_version.proofs.PlaceLemmas.{without_end_zeros-short}
use Rattle.pep_version.proofs.PlaceLemmas.{place-of-place, place-version}
use Rattle.pep_version.specs.Order.{dev_cmp, is_below, place_cmp, phase_rank, place_of}
use Rattle.pep_version.specs.Order.{pre_number_of, public_version, release_cmp, segment_cmp}
use Rattle.pep_version.specs.Order.{short_release, stage_of, suffix_cmp, without_end_zeros}
use Rattle.pep_version.specs.Version.{IsVersion, Segment, Version}
use Rattle.specifiers.specs.Admits.{admits}
use Rattle.pep_clause.proofs.Between.{not_above-test}
use Rattle.texts.proofs.Connectives.{by_answer, or-false, and-true}
use Rattle.specifiers.specs.Clause.{Prefix, at_least, less_than}
use Rattle.pep_clause.specs.Cut.{Cut, IsCut, before, after, past, end, cut_cmp, final_version}
use Rattle.pep_clause.specs.Cut.{is_under, least}
use Rattle.pep_clause.proofs.LeastCut.{none-below_least, none-under_least}
use Rattle.pep_clause.specs.Laws.{cut_total}
use Rattle.pep_clause.proofs.UnderCut.{is_under-cut_cmp}
use Rattle.pep_clause.specs.OperatorTable.{before_place, less_to, range, set_of, with_dev}
use Rattle.pep_clause.specs.VersionSet.{IsNormal, is_in}

-- ---- releases in their short form

-- a comparison with a short form is one with the release
pub release_cmp-short : (xs ys : List ℕ) → release_cmp xs (short_release ys) ≡ release_cmp xs ys
release_cmp-short xs ys =
    release_cmp-lists xs (short_release ys)
    ∙ (λ i. slice_cmp nat_cmp (without_end_zeros xs) (without_end_zeros-short ys i))
    ∙ sym (release_cmp-lists xs ys)

-- being below a version looks at its place alone
pub is_below-place_of : (v w : Version) → is_below v (place_of w) ≡ is_below v w
is_below-place_of v w =
    λ i. is_lt (ordering_then (ordering_then (nat_cmp v.epoch w.epoch)
    (release_cmp-short v.release w.release i)) (suffix_cmp v w))

-- the same of the release before the short form
short-release_cmp : (xs ys : List ℕ) → release_cmp (short_release xs) ys ≡ release_cmp xs ys
short-release_cmp xs ys =
    release_cmp-lists (short_release xs) ys
    ∙ (λ i. slice_cmp nat_cmp (without_end_zeros-short xs i) (without_end_zeros ys))
    ∙ sym (release_cmp-lists xs ys)

-- a version is under a cut exactly if its place is
pub is_under-place_of : (c : Cut) (v : Version) → is_under c (place_of v) ≡ is_under c v
is_under-place_of (before w) v =
    λ i. is_lt (ordering_then (ordering_then (nat_cmp v.epoch w.epoch)
    (short-release_cmp v.release w.release i)) (suffix_cmp v w))
is_under-place_of (after w) v =
    λ i. is_le (ordering_then (ordering_then (nat_cmp v.epoch w.epoch)
    (short-release_cmp v.release w.release i)) (suffix_cmp v w))
is_under-place_of (past r) v =
    λ i. nat_lt v.epoch r.epoch || ((v.epoch == r.epoch)
    && is_le (short-release_cmp v.release r.release i))
is_under-place_of end v = refl

pub IsCut-before_place : (v : Version) → IsVersion v → IsCut (before_place v)
IsCut-before_place v h = (place-version v h, place-of-place v)

pub IsVersion-with_dev : (v : Version) → IsVersion v → IsVersion (with_dev 0 v)
IsVersion-with_dev v h = record {
  release = h.release;
  label = h.label;
  numbers = record {
    epoch = h.numbers.epoch;
    release = h.numbers.release;
    pre = h.numbers.pre;
    post = h.numbers.post;
    dev = omega arith;
    label = h.numbers.label;
  };
}

-- ---- at least a version

-- a label stands above no label
label_step : (label : List Segment) → is_lt (slice_cmp segment_cmp label [])
    ≡ is_lt (slice_cmp segment_cmp [] [])
label_step [] = refl
label_step (s ∷ rest) = refl

then_below : (r s t : Ordering) → is_lt s ≡ is_lt t → is_lt (ordering_then r s)
    ≡ is_lt (ordering_then r t)
then_below Less s t e = refl
then_below Equal s t e = e
then_below Greater s t e = refl

-- a label does not matter to a comparison with a version without one
below_public : (v w : Version) → is_below v (public_version w)
    ≡ is_below (public_version v) (public_version w)
below_public v w =
    then_below (place_cmp v w) _ _ (then_below (ordering_then
    (nat_cmp (stage_of v.pre v.post v.dev) (stage_of w.pre w.post w.dev))
    (nat_cmp (pre_number_of v.pre) (pre_number_of w.pre))) _ _
    (then_below (option_cmp nat_cmp v.post w.post) _ _
    (then_below (dev_cmp v.dev w.dev) _ _ (label_step v.label))))

pub is_below-public : (v w : Version) → w.label ≡ [] → is_below v w ≡ is_below (public_version v) w
is_below-public v w none =
    let public : public_version w ≡ w =
    λ i. record {
      epoch = w.epoch;
      release = w.release;
      pre = w.pre;
      post = w.post;
      dev = w.dev;
      label = sym none i;
    } in
    (λ i. is_below v (sym public i)) ∙ below_public v w
    ∙ (λ i. is_below (public_version v) (public i))

-- `>=` of a version without a label
pub at_least-row : (w v : Version) → w.label ≡ [] → is_in (set_of (at_least w)) v
    ≡ admits (at_least w) v
at_least-row w v none =
    or-false (not (is_below v (place_of w)))
    ∙ (λ i. not (is_below-place_of v w i))
    ∙ (λ i. not (is_below-public v w none i))

pub at_least-normal : (w : Version) → IsVersion w → IsNormal (set_of (at_least w))
at_least-normal w h =
    record { increasing = (refl, tt); spelled = (IsCut-before_place w h, (tt, tt)) }

-- ---- less than a release

phase_above_first : (phase : Phase) → nat_cmp (phase_rank phase) 0 ≡ Greater
phase_above_first Alpha = refl
phase_above_first Beta = refl
phase_above_first Rc = refl

phase_below_last : (phase : Phase) → nat_cmp (phase_rank phase) 4 ≡ Less
phase_below_last Alpha = refl
phase_below_last Beta = refl
phase_below_last Rc = refl

number_not_below : (n : ℕ) (label : List Segment) →
    is_lt (ordering_then (nat_cmp n 0) (slice_cmp segment_cmp label [])) ≡ false
number_not_below zero [] = refl
number_not_below zero (s ∷ rest) = refl
number_not_below (suc n) label = rw (sym (nat_cmp_is (suc n) 0 Greater (omega arith))) refl

-- what is behind the place, of a version with these parts against a release and against its `.dev0`
abbrev against_final : Option (Phase × ℕ) → Option ℕ → Option ℕ → Ordering
against_final pre post dev =
    ordering_then (ordering_then (nat_cmp (stage_of pre post dev) 4)
    (nat_cmp (pre_number_of pre) 0))
    (ordering_then (option_cmp nat_cmp post None) (ordering_then (dev_cmp dev None) Equal))

abbrev against_first : Option (Phase × ℕ) → Option ℕ → Option ℕ → List Segment → Ordering
against_first pre post dev label =
    ordering_then (ordering_then (nat_cmp (stage_of pre post dev) 0)
    (nat_cmp (pre_number_of pre) 0))
    (ordering_then (option_cmp nat_cmp post None) (ordering_then (dev_cmp dev (Some 0))
    (slice_cmp segment_cmp label [])))

-- under `.dev0` of a release is what is below it and no pre-release of it
less_by : (place : Ordering) (pre : Option (Phase × ℕ)) (post dev : Option ℕ) (label : List Segment)
    → is_lt (ordering_then place (against_first pre post dev label))
    ≡ (is_lt (ordering_then place (against_final pre post dev))
    && not (is_eq (ordering_then place (against_final pre post None))
    || (is_some pre && is_eq (ordering_then place Equal))))
less_by Less None post dev label = refl
less_by Less (Some p) post dev label = refl
less_by Greater pre post dev label = refl
less_by Equal None None None label = refl
less_by Equal None None (Some n) label = number_not_below n label
less_by Equal None (Some m) dev label = refl
less_by Equal (Some p) post dev label = rw (phase_above_first p.0, phase_below_last p.0) refl

under_first_by : (b : Bool) (high : Cut) (v : Version) → is_lt (cut_cmp least high) ≡ b
    → is_in (if b then record { low = least; high = high } ∷ [] else []) v ≡ is_under high v
under_first_by true high v e =
    (λ i. (is_under high v && not (none-under_least v i)) || false)
    ∙ or-false (is_under high v && true) ∙ and-true (is_under high v)
under_first_by false high v e =
    by_answer (is_lt (cut_cmp (before v) high))
    (λ t. cc (e, not_above-test cut_total least (before v) high (none-below_least (before v)) t))
    (λ t. sym (is_under-cut_cmp high v ∙ t))

-- a version is in the range from the least cut exactly if it is under the high cut
pub is_in-from_least : (high : Cut) (v : Version) → is_in (range least high) v ≡ is_under high v
is_in-from_least high v = under_first_by (is_lt (cut_cmp least high)) high v refl

-- `<` of a release with its epoch
pub less_than-row : (r : Prefix) (v : Version) → is_in (set_of (less_than (final_version r))) v
    ≡ admits (less_than (final_version r)) v
less_than-row r v =
    is_in-from_least (less_to (final_version r)) v
    ∙ is_below-place_of v (with_dev 0 (final_version r))
    ∙ less_by (place_cmp v (final_version r)) v.pre v.post v.dev v.label
