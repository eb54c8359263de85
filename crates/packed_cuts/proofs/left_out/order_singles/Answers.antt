use Rattle.std.proofs.Common.{◌≡◌, ◌∙◌, rules}
use Rattle.std.specs.Ordering.{is_lt}
use Rattle.std.proofs.lemmas.List.Sorted.{All-permutation, IsStrictWeakOrder-flip, answers_always, ranks_by, sorted_far}
use Rattle.texts.proofs.ListLemmas.{lent_whole}
use Rattle.pep_clause.specs.Cut.{Cut, cut_cmp}
use Rattle.pep_clause.specs.Laws.{cut_total}
use Rattle.packed_cuts.specs.Way.LeftOut.{IsSingle, itself}
use Rattle.packed_cuts.proofs.SingleCuts.{one_each, singles_permuted}
use Rattle.packed_cuts.proofs.left_out.order_singles.Goals as goal

pub returns-in_err-sort_by-clause-points : goal.returns-in_err-sort_by-clause-points
returns-in_err-sort_by-clause-points c = singles_permuted _ _ (lent_whole _ _ _ _ _ _ c.as_mut_slice.ensures.value c.as_mut_slice.ensures.len c.sort_new.ensures c.sort_by.ensures.permutation)

pub returns-in_err-sort_by-clause-singles : goal.returns-in_err-sort_by-clause-singles
returns-in_err-sort_by-clause-singles c = All-permutation IsSingle _ _ (lent_whole _ _ _ _ _ _ c.as_mut_slice.ensures.value c.as_mut_slice.ensures.len c.sort_new.ensures c.sort_by.ensures.permutation) c.requires

pub returns-clause-falling : goal.returns-clause-falling
returns-clause-falling c =
    let sorted = c.sort_by.new.self.items in
    let order = IsStrictWeakOrder-flip (λ (x y : Cut). is_lt (cut_cmp x y)) (ranks_by cut_total itself) in
    (one_each sorted c.dedup.new.self.items
    (All-permutation IsSingle _ _ (lent_whole _ _ _ _ _ _ c.as_mut_slice.ensures.value c.as_mut_slice.ensures.len c.sort_new.ensures c.sort_by.ensures.permutation) c.requires) c.dedup.ensures.filtered).falling
    (sorted_far (λ x y. is_lt (cut_cmp y x)) order sorted
    (c.in_ok-sort_by.ensures.sorted (λ x y. is_lt (cut_cmp y x)) order
    (answers_always _ (λ a r. is_lt r ≡ is_lt (cut_cmp a.1.0.now a.0.now)) _ (λ f a r k h. search rules))))

pub returns-clause-points : goal.returns-clause-points
returns-clause-points c x =
    let sorted = c.sort_by.new.self.items in
    (one_each sorted c.dedup.new.self.items
    (All-permutation IsSingle _ _ (lent_whole _ _ _ _ _ _ c.as_mut_slice.ensures.value c.as_mut_slice.ensures.len c.sort_new.ensures c.sort_by.ensures.permutation) c.requires) c.dedup.ensures.filtered).points x
    ∙ singles_permuted _ sorted (lent_whole _ _ _ _ _ _ c.as_mut_slice.ensures.value c.as_mut_slice.ensures.len c.sort_new.ensures c.sort_by.ensures.permutation) x

pub returns-clause-singles : goal.returns-clause-singles
returns-clause-singles c =
    (one_each c.sort_by.new.self.items c.dedup.new.self.items
    (All-permutation IsSingle _ _ (lent_whole _ _ _ _ _ _ c.as_mut_slice.ensures.value c.as_mut_slice.ensures.len c.sort_new.ensures c.sort_by.ensures.permutation) c.requires) c.dedup.ensures.filtered).singles
