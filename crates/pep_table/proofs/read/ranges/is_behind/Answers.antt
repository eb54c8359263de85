use Rattle.std.proofs.Common.{◌≡◌, ◌∙◌, ◌-◌, Some, length, refl, rules, subst}
use Rattle.std.specs.Bool.{IsTrue}
use Rattle.std.specs.List.{slice_get}
use Rattle.std.specs.Ordering.{is_lt}
use Rattle.pep_clause.proofs.Between.{less_told}
use Rattle.pep_clause.specs.Cut.{cut_cmp}
use Rattle.pep_table.proofs.ReadRanges.{range_behind_last}
use Rattle.pep_table.proofs.read.ranges.is_behind.Goals as goal

pub returns-in-Some : goal.returns-in-Some
returns-in-Some c =
    let rs = c.args.ranges.now in
    let r = c.args.range.now in
    let last = c.in-Some.last.now in
    let found : slice_get rs (length rs - 1) ≡ Some last = search rules in
    let both = range_behind_last rs last r found c.requires
    (c.high.ensures.above, c.low-low.ensures.spelled, c.high.ensures.spelled) in
    let cuts : c.lt.result ≡ is_lt (cut_cmp c.high-in-Some.result.now c.low-low.result.now) =
    c.lt.ensures in
    let told : c.lt.result ≡ is_lt (cut_cmp last.high r.low) =
    cuts ∙ (λ i. is_lt (cut_cmp (c.high-in-Some.ensures.high i) (c.low-low.ensures.low i))) in (
      λ t. both.0 (less_told (cut_cmp last.high r.low) (subst IsTrue told t)),
      λ m. rw (told, both.1 m) refl,
    )
