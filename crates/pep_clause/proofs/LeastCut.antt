-- The least cut is under all others, and `end` above all others.
use Rattle.std.proofs.Common.{◌≡◌, ℕ, zero, suc, ◌&&◌, ◌||◌, Bool, true, false, not, List, [], ◌∷◌}
use Rattle.std.proofs.Common.{Option, Some, None, refl, sym, ap, ◌∙◌, arith}
use Rattle.std.specs.Cmp.{nat_cmp_is}
use Rattle.std.specs.Cmp.Lexicographic.{slice_cmp}
use Rattle.std.specs.Option.{option_cmp}
use Rattle.std.specs.Ordering.{is_le, is_lt, nat_cmp, ordering_reverse, ordering_then}
use Rattle.std.specs.declared.cmp.Ordering.{Ordering}
use Rattle.std.specs.declared.cmp.Ordering.TheVariants.{Less, Equal, Greater}
use Rattle.pep_version.specs.Order.{dev_cmp, pre_number, release_cmp, segment_cmp, stage}
use Rattle.pep_version.specs.Order.{suffix_cmp}
use Rattle.pep_version.specs.Version.{Segment, Version}
use Rattle.pep_clause.specs.Cut.{Cut, before, after, past, end, cut_cmp, final_version, is_under}
use Rattle.pep_clause.specs.Cut.{least}
use Rattle.pep_clause.specs.Laws.{cut_total}
use Rattle.pep_clause.proofs.UnderCut.{is_under-cut_cmp}
use Rattle.pep_clause.specs.VersionSet.{IsNormal, Range, all_versions, is_point}
use Rattle.texts.proofs.Connectives.{and-true, and_left, or-false, or_from}
use Rattle.pep_clause.proofs.Between.{is_between}

then_not_above : (r s : Ordering) → is_le r ≡ true → is_le s ≡ true →
    is_le (ordering_then r s) ≡ true
then_not_above Less s e f = refl
then_not_above Equal s e f = f
then_not_above Greater s e f = cc e

zero_not_above : (n : ℕ) → is_le (nat_cmp 0 n) ≡ true
zero_not_above zero = refl
zero_not_above (suc n) = ap is_le (sym (nat_cmp_is 0 (suc n) Less (omega arith)))

empty_not_above : (release : List ℕ) → is_le (release_cmp [] release) ≡ true
empty_not_above [] = refl
empty_not_above (n ∷ rest) =
    then_not_above (nat_cmp 0 n) (release_cmp [] rest) (zero_not_above n) (empty_not_above rest)

zero_release_not_above : (release : List ℕ) → is_le (release_cmp (0 ∷ []) release) ≡ true
zero_release_not_above [] = refl
zero_release_not_above (n ∷ rest) =
    then_not_above (nat_cmp 0 n) (release_cmp [] rest) (zero_not_above n) (empty_not_above rest)

none_not_above : (post : Option ℕ) → is_le (option_cmp nat_cmp None post) ≡ true
none_not_above None = refl
none_not_above (Some n) = refl

first_dev_not_above : (dev : Option ℕ) → is_le (dev_cmp (Some 0) dev) ≡ true
first_dev_not_above None = refl
first_dev_not_above (Some n) = zero_not_above n

no_label_not_above : (label : List Segment) → is_le (slice_cmp segment_cmp [] label) ≡ true
no_label_not_above [] = refl
no_label_not_above (s ∷ rest) = refl

abbrev least_version : Version
least_version =
    record { epoch = 0; release = 0 ∷ []; pre = None; post = None; dev = Some 0; label = [] }

least_suffix : (v : Version) → is_le (suffix_cmp least_version v) ≡ true
least_suffix v =
    then_not_above _ _ (then_not_above _ _ (zero_not_above (stage v))
    (zero_not_above (pre_number v)))
    (then_not_above _ _ (none_not_above v.post) (then_not_above _ _ (first_dev_not_above v.dev)
    (no_label_not_above v.label)))

-- the epoch, the release and what is behind
least_by : (v : Version) (behind : Ordering) → is_le behind ≡ true
    → is_le (ordering_then (nat_cmp 0 v.epoch) (ordering_then
    (release_cmp (0 ∷ []) v.release) behind)) ≡ true
least_by v behind e =
    then_not_above _ _ (zero_not_above v.epoch) (then_not_above _ _
    (zero_release_not_above v.release) e)

-- the least cut is above none
pub least-not_above : (c : Cut) → is_le (cut_cmp least c) ≡ true
least-not_above (before v) =
    least_by v (ordering_then (suffix_cmp least_version v) Equal)
    (then_not_above (suffix_cmp least_version v) Equal (least_suffix v) refl)
least-not_above (after v) =
    least_by v (ordering_then (suffix_cmp least_version v) Less)
    (then_not_above (suffix_cmp least_version v) Less (least_suffix v) refl)
least-not_above (past r) = least_by (final_version r) Less refl
least-not_above end = refl

pub turned_not_below : (r s : Ordering) → r ≡ ordering_reverse s → is_le s ≡ true → is_lt r ≡ false
turned_not_below Less Less e f = cc e
turned_not_below Less Equal e f = cc e
turned_not_below Less Greater e f = cc f
turned_not_below Equal s e f = refl
turned_not_below Greater s e f = refl

-- no cut is below the least
pub none-below_least : (c : Cut) → is_lt (cut_cmp c least) ≡ false
none-below_least c =
    turned_not_below (cut_cmp c least) (cut_cmp least c) (cut_total.antisymm c least)
    (least-not_above c)

-- no version is under the least cut
pub none-under_least : (v : Version) → is_under least v ≡ false
none-under_least v = is_under-cut_cmp least v ∙ none-below_least (before v)

-- every cut but `end` is below `end`, and `end` is below none
abbrev pub is_end : Cut → Bool
is_end (before v) = false
is_end (after v) = false
is_end (past r) = false
is_end end = true

below-end : (c : Cut) → is_lt (cut_cmp c end) ≡ not (is_end c)
below-end (before v) = refl
below-end (after v) = refl
below-end (past r) = refl
below-end end = refl

pub end-below_none : (c : Cut) → is_lt (cut_cmp end c) ≡ false
end-below_none (before v) = refl
end-below_none (after v) = refl
end-below_none (past r) = refl
end-below_none end = refl

-- the points of all versions are the cuts but `end`
pub is_point-all_versions : (c : Cut) → is_point all_versions c ≡ not (is_end c)
is_point-all_versions c =
    (λ i. (below-end c i && not (none-below_least c i)) || false)
    ∙ or-false (not (is_end c) && true) ∙ and-true (not (is_end c))

-- `end` is a point of no list
pub end-no_point : (ranges : List Range) → is_point ranges end ≡ false
end-no_point [] = refl
end-no_point (r ∷ rest) =
    or_from (is_between cut_cmp r.low r.high end) (is_point rest end)
    (and_left (is_lt (cut_cmp end r.high)) (not (is_lt (cut_cmp end r.low)))
    (end-below_none r.high)) (end-no_point rest)

-- a point of a list is a point of all versions
pub point-all_versions : (ranges : List Range) (c : Cut) → is_point ranges c ≡ true →
    is_point all_versions c ≡ true
point-all_versions ranges (before v) e = is_point-all_versions (before v)
point-all_versions ranges (after v) e = is_point-all_versions (after v)
point-all_versions ranges (past r) e = is_point-all_versions (past r)
point-all_versions ranges end e = cc (e, end-no_point ranges)

-- one range from the least cut to the end is a normal list
pub IsNormal-all_versions : IsNormal all_versions
IsNormal-all_versions = record {
  increasing = (refl, tt);
  spelled = (
    (
      record {
        release = omega arith;
        label = tt;
        numbers =
            record {
              epoch = omega arith;
              release = (omega arith, tt);
              pre = tt;
              post = tt;
              dev =
                  omega arith;
              label = tt;
            };
      },
      refl,
    ),
    (tt, tt),
  );
}
