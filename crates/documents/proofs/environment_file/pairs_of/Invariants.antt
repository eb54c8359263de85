use Rattle.toml.specs.View.{members_view}
use Rattle.pep_marker.specs.Pairs.{pair_texts}
use Rattle.documents.proofs.EnvironmentPairs.{PairsSoFar}
use Rattle.documents.proofs.environment_file.pairs_of.Given as goal

-- the keys before the rest have these texts
abbrev pub invariant-loop-key : goal.invariant-loop-key
invariant-loop-key l =
    (goal.iterator-loop-key).can_next l.key-iterator
    × (goal.iterator-loop-key).is_finite l.key-iterator
    × PairsSoFar (members_view l.document.entries) (members_view l.key-iterator)
    (pair_texts l.pairs.items)
