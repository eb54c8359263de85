use Rattle.std.proofs.Common.{◌∙◌, ◌++◌, ap, map, subst, sym}
use Rattle.pep_require.specs.Requirement.{IsAscending}
use Rattle.pep_require.specs.Way.Collected.{collected_texts}
use Rattle.demands.specs.Join.{IsUnion}
use Rattle.demands.proofs.CollectedTexts.{union_collected}
use Rattle.demands.proofs.KeptSets.{collected_rise}
use Rattle.demands.proofs.sorted.SortedJoin.joined.Goals as goal

pub of_ascending-requires : goal.of_ascending-requires
of_ascending-requires g c =
    subst IsAscending (sym c.put_in_order.ensures)
    (collected_rise (map g.T.Kept.text c.push_copies.new.items.items))

pub returns-clause-joins : goal.returns-clause-joins
returns-clause-joins g c =
    let xs = c.args.self.now in
    let ys = c.args.other.now in
    let own = c.items-2.view_is ∙ c.in_ok-items.ensures.same in
    let all = c.in_ok-push_copies.ensures ∙ (λ i. own i ++ c.items-more.ensures.texts i) in
    subst (IsUnion xs ys) (sym (c.of_ascending.ensures ∙ c.put_in_order.ensures ∙ ap collected_texts all))
    (union_collected xs ys)
