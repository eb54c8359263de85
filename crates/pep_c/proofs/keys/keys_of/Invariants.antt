use Rattle.std.proofs.Common.{◌==◌}
use Rattle.std.specs.List.{slice_split}
use Rattle.texts.specs.Way.Split.{left_parts}
use Rattle.pep_c.proofs.EachText.{left_len}
use Rattle.pep_c.proofs.KeyLemmas.{Taken}
use Rattle.pep_c.proofs.keys.keys_of.Given as goal

-- the texts before this place have these keys
abbrev pub invariant-loop-rest : goal.invariant-loop-rest
invariant-loop-rest l =
    Taken (slice_split (λ b. b == 0) l.fn.texts) (left_parts 0 l.rest) l.keys.items

abbrev pub decreases-loop-rest : goal.decreases-loop-rest
decreases-loop-rest l = left_len l.rest
