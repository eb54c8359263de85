use Rattle.std.proofs.Common.{◌≢◌, ◌∙◌, rules}
use Rattle.std.specs.Ordering.{nat_cmp}
use Rattle.texts.proofs.HeadLemmas.{head_cmp}
use Rattle.texts.specs.Way.Heads.{head_of}
use Rattle.texts.proofs.compare.compare_texts.Goals as goal

pub returns-then-head-other : goal.returns-then-head-other
returns-then-head-other c =
    let left = c.words.left.now in
    let right = c.words.right.now in
    let apart : head_of left ≢ head_of right = search rules in
    c.cmp.ensures ∙ (λ i. nat_cmp (c.head_of-head.ensures i) (c.head_of-other.ensures i))
    ∙ head_cmp left right c.words.invariant.0 c.words.invariant.1.0 apart ∙ c.words.invariant.1.1
