use Rattle.std.proofs.Common.{string_bytes}
use Rattle.std.specs.List.{All}
use Rattle.demands.specs.Table.{IsValidEntry}
use Rattle.pep_table.proofs.PrintedEntries.{PrintsUpTo}
use Rattle.pep_table.proofs.gathering.Gathering.text.Given as goal

abbrev pub invariant-loop-name : goal.invariant-loop-name
invariant-loop-name l = PrintsUpTo l.fn.environment l.fn.self l.name-iterator (string_bytes l.text)
    × All (λ p. IsValidEntry p.1) l.name-iterator
