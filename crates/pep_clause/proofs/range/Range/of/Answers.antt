use Rattle.std.proofs.Common.{◌≡◌, ◌==◌, false, not, refl, sym, true}
use Rattle.std.specs.Ordering.{is_lt, ordering_index}
use Rattle.std.specs.declared.cmp.Ordering.{Ordering}
use Rattle.std.specs.declared.cmp.Ordering.TheVariants.{Less, Equal, Greater}
use Rattle.pep_clause.proofs.range.Range.of.Goals as goal

not_less : (r : Ordering) → true ≡ not (ordering_index r == 0) → is_lt r ≡ false
not_less Less e = cc e
not_less Equal e = refl
not_less Greater e = refl

pub returns-then-ne-clause-range : goal.returns-then-ne-clause-range
returns-then-ne-clause-range c =
    let behind = not_less c.order_to.result c.if-ne.ensures in
    rw (sym c.order_to.ensures.order, behind) refl
