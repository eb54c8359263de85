-- A version is under a cut exactly if the cut directly before it is below that cut. So a version is
-- in a list exactly if the cut before it is a point.
use Rattle.std.proofs.Common.{◌≡◌, ◌&&◌, ◌||◌, ◌==◌, List, [], ◌∷◌, Bool, true, false, cond, not}
use Rattle.std.proofs.Common.{nat_lt, refl, ap, ◌∙◌}
use Rattle.std.specs.Ordering.{is_le, is_lt, nat_cmp, ordering_then}
use Rattle.std.specs.declared.cmp.Ordering.{Ordering}
use Rattle.std.specs.declared.cmp.Ordering.TheVariants.{Less, Equal, Greater}
use Rattle.pep_version.specs.Order.{release_cmp, suffix_cmp}
use Rattle.pep_version.specs.Version.{Version}
use Rattle.pep_version.proofs.ByteOrderLemmas.{then_assoc}
use Rattle.pep_clause.specs.Cut.{Cut, before, after, past, end, cut_cmp, is_under}
use Rattle.pep_clause.specs.VersionSet.{Range, is_in, is_point}

then_equal : (s : Ordering) → s ≡ ordering_then s Equal
then_equal Less = refl
then_equal Equal = refl
then_equal Greater = refl

le_then : (s : Ordering) → is_le s ≡ is_lt (ordering_then s Less)
le_then Less = refl
le_then Equal = refl
le_then Greater = refl

-- below a version, and not above it, by place and by what is behind
below_both : (e r s : Ordering) → is_lt (ordering_then (ordering_then e r) s)
    ≡ is_lt (ordering_then e (ordering_then r (ordering_then s Equal)))
below_both e r s =
    ap is_lt (then_assoc e r s) ∙ ap (λ t. is_lt (ordering_then e (ordering_then r t))) (then_equal s)

not_above_both : (e r s : Ordering) → is_le (ordering_then (ordering_then e r) s)
    ≡ is_lt (ordering_then e (ordering_then r (ordering_then s Less)))
not_above_both e r s =
    le_then (ordering_then (ordering_then e r) s)
    ∙ ap is_lt (then_assoc (ordering_then e r) s Less ∙ then_assoc e r (ordering_then s Less))

within_both : (less same : Bool) (r : Ordering)
    → (less || (same && is_le r)) ≡ is_lt (ordering_then (cond less Less (cond same Equal Greater))
    (ordering_then r Less))
within_both true same r = refl
within_both false true Less = refl
within_both false true Equal = refl
within_both false true Greater = refl
within_both false false r = refl

-- a version is under a cut exactly if the cut before it is below that cut
pub is_under-cut_cmp : (c : Cut) (v : Version) → is_under c v ≡ is_lt (cut_cmp (before v) c)
is_under-cut_cmp (before w) v =
    below_both (nat_cmp v.epoch w.epoch) (release_cmp v.release w.release) (suffix_cmp v w)
is_under-cut_cmp (after w) v =
    not_above_both (nat_cmp v.epoch w.epoch) (release_cmp v.release w.release) (suffix_cmp v w)
is_under-cut_cmp (past r) v =
    within_both (nat_lt v.epoch r.epoch) (v.epoch == r.epoch) (release_cmp v.release r.release)
is_under-cut_cmp end v = refl

-- a version is in a list exactly if the cut before it is a point of the list
pub is_in-is_point : (ranges : List Range) (v : Version) →
    is_in ranges v ≡ is_point ranges (before v)
is_in-is_point [] v = refl
is_in-is_point (r ∷ rest) v =
    λ i. (is_under-cut_cmp r.high v i && not (is_under-cut_cmp r.low v i))
    || is_in-is_point rest v i
