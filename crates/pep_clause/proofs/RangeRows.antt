-- The versions of a range and of what is outside a range, and that both are normal lists.
use Rattle.std.proofs.Common.{◌≡◌, ◌&&◌, ◌||◌, Bool, true, false, not, List, ◌++◌, refl, sym, ◌∙◌}
use Rattle.std.specs.Ordering.{is_lt}
use Rattle.std.specs.declared.cmp.Ordering.TheVariants.{Less}
use Rattle.pep_version.specs.Version.{Version}
use Rattle.pep_clause.proofs.Between.{not_below_itself}
use Rattle.pep_clause.specs.Cut.{Cut, IsCut, before, end, cut_cmp, is_under, least}
use Rattle.pep_clause.specs.Laws.{cut_total}
use Rattle.pep_clause.proofs.UnderCut.{is_in-is_point, is_under-cut_cmp}
use Rattle.pep_clause.proofs.LeastCut.{IsNormal-all_versions, none-under_least}
use Rattle.pep_clause.proofs.NormalLists.{Apart-append, IsNormal-from, Spelled-append}
use Rattle.pep_clause.specs.OperatorTable.{outside, range}
use Rattle.pep_clause.specs.VersionSet.{IsNormal, Range, is_in}
use Rattle.pep_clause.proofs.JoinedPoints.{is_point-append, is_point-range}
use Rattle.pep_clause.proofs.NormalJoined.{Apart-range, Spelled-range, above_by, beyond_by}

-- a version is in a range exactly if it is under the high cut and not under the low one
pub range-row : (low high : Cut) (v : Version) → is_in (range low high) v
    ≡ (is_under high v && not (is_under low v))
range-row low high v =
    is_in-is_point (range low high) v
    ∙ is_point-range low high (before v)
    ∙ (λ i. sym (is_under-cut_cmp high v) i && not (sym (is_under-cut_cmp low v) i))

pub is_in-append : (xs ys : List Range) (v : Version) →
    is_in (xs ++ ys) v ≡ (is_in xs v || is_in ys v)
is_in-append xs ys v =
    is_in-is_point (xs ++ ys) v
    ∙ is_point-append xs ys (before v)
    ∙ (λ i. sym (is_in-is_point xs v) i || sym (is_in-is_point ys v) i)

outside_tests : (low high : Bool) → ((low && true) || (true && not high)) ≡ not (high && not low)
outside_tests true true = refl
outside_tests true false = refl
outside_tests false true = refl
outside_tests false false = refl

-- a version is outside a range exactly if it is not in it
pub outside-row : (low high : Cut) (v : Version) → is_in (outside low high) v
    ≡ not (is_in (range low high) v)
outside-row low high v =
    is_in-append (range least low) (range high end) v
    ∙ (λ i. range-row least low v i || range-row high end v i)
    ∙ (λ i. (is_under low v && not (none-under_least v i)) || (true && not (is_under high v)))
    ∙ outside_tests (is_under low v) (is_under high v)
    ∙ (λ i. not (sym (range-row low high v) i))

-- what is outside a range that is not empty is a normal list
pub IsNormal-outside : (low high : Cut) → IsCut low → IsCut high → cut_cmp low high ≡ Less →
    IsNormal (outside low high)
IsNormal-outside low high e f less =
    IsNormal-from (outside low high)
    (Apart-append low (range least low) (range high end) (Apart-range least low)
    (Apart-range high end)
    (beyond_by (is_lt (cut_cmp least low)) low least low (not_below_itself cut_total low))
    (above_by (is_lt (cut_cmp high end)) low high end less))
    (Spelled-append (range least low) (range high end)
    (Spelled-range least low IsNormal-all_versions.spelled.0 e) (Spelled-range high end f tt))
