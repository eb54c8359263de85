use Rattle.std.proofs.Common.{◌≡◌, length}
use Rattle.texts.specs.Way.Arena.{text_cmp}
use Rattle.texts.proofs.HeadLemmas.{Small}
use Rattle.texts.proofs.compare.compare_texts.Given as goal

-- what is left decides
abbrev pub invariant-words : goal.invariant-words
invariant-words l = Small l.left × (Small l.right × (text_cmp l.left l.right ≡ text_cmp l.fn.first l.fn.second))

abbrev pub decreases-words : goal.decreases-words
decreases-words l = length l.left
