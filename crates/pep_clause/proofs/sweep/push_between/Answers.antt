use Rattle.std.proofs.Common.{◌≡◌, ◌∙◌, rules, sym}
use Rattle.pep_clause.proofs.Between.{less_told}
use Rattle.pep_clause.proofs.sweep.push_between.Goals as goal

pub between-requires-clause-in_order : goal.between-requires-clause-in_order
between-requires-clause-in_order c =
    let low : c.in_ok-low.low ≡ c.args.low.now = search rules in
    let high : c.in_ok-high.high ≡ c.args.high.now = search rules in
    rw (low, high) (less_told _ (sym c.lt.ensures ∙ c.if-lt.true))
