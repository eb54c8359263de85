use Rattle.std.proofs.Common.{◌≡◌, ◌++◌, length}
use Rattle.std.specs.Vec.Iter.{into_iter_items, into_iter_len}
use Rattle.demands.specs.Join.{JoinsTables}
use Rattle.pep_table.proofs.gathering.Gathering.take_table.Given as goal

-- the entries before those that are left are joined
abbrev pub invariant-loop-name : goal.invariant-loop-name
invariant-loop-name l =
    (l.yielded ++ into_iter_items l.name-iterator ≡ into_iter_items l.initial.name-iterator)
    × JoinsTables l.initial.joined l.yielded l.joined
    × (into_iter_len l.name-iterator ≡ length (into_iter_items l.name-iterator))
