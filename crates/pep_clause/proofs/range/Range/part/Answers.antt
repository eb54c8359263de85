use Rattle.std.proofs.Common.{◌≡◌, inr, ap, subst, sym, ◌∙◌}
use Rattle.std.specs.declared.cmp.Ordering.TheVariants.{Less}
use Rattle.pep_clause.specs.Cut.{cut_cmp}
use Rattle.pep_clause.specs.Laws.{cut_total}
use Rattle.pep_clause.specs.VersionSet.{Range}
use Rattle.pep_clause.proofs.Between.{less_told}
use Rattle.pep_clause.proofs.range.Range.part.Goals as goal

pub invariant_of-self : goal.invariant_of-self
invariant_of-self c =
    let less : cut_cmp c.other.inside.low c.self.inside.high ≡ Less =
    less_told _ (sym c.lt-then-lt.ensures ∙ c.if-lt-2.true) in
    rw c.swap.ensures.x_after (less, c.other.invariant.1, c.self.invariant.2)

pub invariant_of-other : goal.invariant_of-other
invariant_of-other c =
    let less : cut_cmp c.self.inside.low c.other.inside.low ≡ Less =
    less_told _ (sym c.lt.ensures ∙ c.if-lt.true) in
    let up = cut_total.trans c.self.inside.low c.other.inside.low c.other.inside.high less
    c.other.invariant.0 in
    rw c.swap.ensures.y_after (up, c.self.invariant.1, c.other.invariant.2)

pub returns-then-lt-2-clause-above : goal.returns-then-lt-2-clause-above
returns-then-lt-2-clause-above c =
    let less : cut_cmp c.self.inside.low c.other.inside.low ≡ Less =
    less_told _ (sym c.lt.ensures ∙ c.if-lt.true) in
    let up = cut_total.trans c.self.inside.low c.other.inside.low c.other.inside.high less
    c.other.invariant.0 in
    rw c.swap.ensures.y_after up

pub returns-then-lt-2-clause-left : goal.returns-then-lt-2-clause-left
returns-then-lt-2-clause-left c =
    let old : cut_cmp c.other.inside.low c.self.inside.high ≡ Less =
    less_told _ (sym c.lt-then-lt.ensures ∙ c.if-lt-2.true) in
    let own : cut_cmp c.swap.new.y c.self.inside.high ≡ Less =
    rw c.swap.ensures.y_after c.self.invariant.0 in
    inr (
      ap (λ (r : Range). r.high) c.other.view_is,
      subst (λ (r : Range). cut_cmp r.low c.args.self.now.high ≡ Less) c.other.view_is
          (subst (λ (r : Range). cut_cmp c.other.inside.low r.high ≡ Less) c.self.view_is old),
      subst (λ (r : Range). cut_cmp c.swap.new.y r.high ≡ Less) c.self.view_is own,
    )
