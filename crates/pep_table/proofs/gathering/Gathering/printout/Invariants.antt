use Rattle.std.specs.List.{All}
use Rattle.demands.specs.Table.{IsValidEntry}
use Rattle.pep_table.proofs.PrintedRows.{RowsUpTo}
use Rattle.pep_table.proofs.gathering.Gathering.printout.Given as goal

abbrev pub invariant-loop-name : goal.invariant-loop-name
invariant-loop-name l = RowsUpTo l.fn.self l.name-iterator l.rows × All (λ p. IsValidEntry p.1) l.name-iterator
