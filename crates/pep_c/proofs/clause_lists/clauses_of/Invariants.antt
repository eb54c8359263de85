use Rattle.std.proofs.Common.{◌==◌}
use Rattle.std.specs.List.{slice_split}
use Rattle.texts.specs.Way.Split.{left_parts}
use Rattle.pep_c.proofs.ClauseListLemmas.{Written}
use Rattle.pep_c.proofs.EachText.{left_len}
use Rattle.pep_c.proofs.clause_lists.clauses_of.Given as goal

abbrev pub decreases-loop-rest : goal.decreases-loop-rest
decreases-loop-rest l = left_len l.rest

abbrev pub invariant-loop-rest : goal.invariant-loop-rest
invariant-loop-rest l =
    Written (slice_split (λ b. b == 44) l.fn.bytes) (left_parts 44 l.rest) l.clauses.items
