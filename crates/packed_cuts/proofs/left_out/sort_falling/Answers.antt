use Rattle.std.proofs.Common.{◌≡◌, rules}
use Rattle.std.specs.Ordering.{is_lt}
use Rattle.std.proofs.lemmas.List.Sorted.{IsStrictWeakOrder-flip, answers_always, ranks_by, sorted_far}
use Rattle.pep_clause.specs.Cut.{cut_cmp}
use Rattle.pep_clause.specs.Laws.{cut_total}
use Rattle.packed_cuts.specs.declared.packed_range.PackedRange.{PackedRange}
use Rattle.packed_cuts.proofs.left_out.sort_falling.Goals as goal

pub returns-clause-falling : goal.returns-clause-falling
returns-clause-falling c =
    let order = IsStrictWeakOrder-flip (λ (x y : PackedRange). is_lt (cut_cmp x.low y.low)) (ranks_by cut_total (λ b. b.low)) in
    sorted_far (λ x y. is_lt (cut_cmp y.low x.low)) order _
    (c.sort_unstable_by.ensures.sorted (λ x y. is_lt (cut_cmp y.low x.low)) order
    (answers_always _ (λ a r. is_lt r ≡ is_lt (cut_cmp a.1.0.now.low a.0.now.low)) _ (λ f a r k h. search rules)))
