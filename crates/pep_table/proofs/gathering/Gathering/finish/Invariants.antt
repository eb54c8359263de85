use Rattle.std.proofs.Common.{◌≡◌, ◌++◌}
use Rattle.std.specs.List.{All}
use Rattle.demands.specs.Table.{IsValidEntry}
use Rattle.pep_table.proofs.gathering.Gathering.finish.Given as goal

abbrev pub invariant-loop-name : goal.invariant-loop-name
invariant-loop-name l = (l.entries.items ++ l.name-iterator ≡ l.fn.self) × All (λ p. IsValidEntry p.1) l.name-iterator
