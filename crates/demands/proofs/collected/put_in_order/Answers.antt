use Rattle.std.proofs.Common.{◌≡◌, ◌∙◌, ap}
use Rattle.texts.proofs.Results.{at_err}
use Rattle.pep_require.specs.Way.Collected.{collected_texts}
use Rattle.demands.proofs.KeptSets.{collected_again, collected_moved, texts_once}
use Rattle.demands.proofs.collected.put_in_order.Goals as goal
use Rattle.demands.proofs.collected.put_in_order.Goals.{After-dedup}

once : (c : After-dedup) → c.dedup.new.self ≡ collected_texts c.args.texts.now
once c =
    texts_once c.args.texts.now c.sort.new.self c.dedup.new.self c.sort.ensures.permutation c.in_ok-sort.ensures.sorted
    c.dedup.ensures

pub returns-clause-once : goal.returns-clause-once
returns-clause-once c = once (goal.at.returns-clause-once c).After-dedup

pub returns-in_err-sort-clause-kept : goal.returns-in_err-sort-clause-kept
returns-in_err-sort-clause-kept c =
    at_err c.from_residual.result (collected_moved c.args.texts.now c.sort.new.self c.sort.ensures.permutation)

pub returns-in_err-dedup-clause-kept : goal.returns-in_err-dedup-clause-kept
returns-in_err-dedup-clause-kept c =
    at_err c.from_residual-in_err-dedup.result
    (ap collected_texts (once (goal.at.returns-in_err-dedup-clause-kept c).After-dedup)
    ∙ collected_again c.args.texts.now)
