-- A clause admits what lies between the ends that its operator has.
use Rattle.std.proofs.Common.{◌≡◌, ◌≢◌, ◌&&◌, ◌||◌, ◌∙◌, Bool, ap, false, not, refl, true}
use Rattle.std.specs.Ordering.{is_eq, is_ge, is_le, is_lt, ordering_reverse}
use Rattle.std.specs.Prelude.{if◌then◌else◌}
use Rattle.std.specs.declared.cmp.Ordering.{Ordering}
use Rattle.std.specs.declared.cmp.Ordering.TheVariants.{Less, Equal, Greater}
use Rattle.pep_version.specs.Laws.{version_total}
use Rattle.pep_version.specs.Order.{is_below, public_version, version_cmp}
use Rattle.pep_version.specs.Version.{Version}
use Rattle.texts.proofs.Connectives.{and-true}
use Rattle.texts.specs.Lists.{is_empty}
use Rattle.specifiers.specs.Admits.{admits, compatible_prefix, has_prefix, matches}
use Rattle.specifiers.specs.Operator.{begin_of, end_of, leaves_out, of_version, takes_label}
use Rattle.specifiers.specs.Way.Ends.{is_between, order_to}
use Rattle.specifiers.specs.declared.op.Op.{Op}
use Rattle.specifiers.specs.declared.op.Op.TheVariants as op

-- ---- orders

not-below : (r : Ordering) → is_ge r ≡ not (is_lt r)
not-below Less = refl
not-below Equal = refl
not-below Greater = refl

not-above : (r : Ordering) → is_le (ordering_reverse r) ≡ not (is_lt r)
not-above Less = refl
not-above Equal = refl
not-above Greater = refl

neither : (r : Ordering) → is_ge r && is_le r ≡ is_eq r
neither Less = refl
neither Equal = refl
neither Greater = refl

-- ---- what lies between the ends

bare-begun : (w v : Version) → is_empty w.label ≡ true →
    is_ge (order_to w v) ≡ not (is_below (public_version v) w)
bare-begun w v bare = rw bare (not-below (version_cmp (public_version v) w))

matching-between : (w v : Version) → is_ge (order_to w v) && is_le (order_to w v) ≡ matches w v
matching-between w v = neither (order_to w v) ∙ by (is_empty w.label) refl
  where
    by : (b : Bool) → is_empty w.label ≡ b → is_eq (order_to w v) ≡ matches w v
    by true e = rw e refl
    by false e = rw e refl

at-most : (w v : Version) → is_le (version_cmp (public_version v) w) ≡ not (is_below w (public_version v))
at-most w v =
    ap is_le (version_total.antisymm (public_version v) w) ∙ not-above (version_cmp w (public_version v))

pub between-admitted : (o : Op) (w v : Version) → o ≢ op.Exact → takes_label o || is_empty w.label ≡ true →
    (if leaves_out o then not (is_between (begin_of o) (end_of o) w v) else is_between (begin_of o) (end_of o) w v)
    ≡ admits (of_version o w) v
between-admitted op.Equal w v other label = matching-between w v
between-admitted op.NotEqual w v other label = ap not (matching-between w v)
between-admitted op.AtMost w v other label = at-most w v
between-admitted op.AtLeast w v other label = and-true _ ∙ bare-begun w v label
between-admitted op.Less w v other label = refl
between-admitted op.More w v other label = and-true _
between-admitted op.Compatible w v other label =
    ap (λ t. t && has_prefix (compatible_prefix w) v) (bare-begun w v label)
between-admitted op.Exact w v other label = absurd (other refl)
