use Rattle.std.proofs.Common.{drop, string_bytes}
use Rattle.pep_table.proofs.PrintedEntries.{PrintsUpTo}
use Rattle.pep_table.proofs.table.Table.text.Given as goal

abbrev pub invariant-loop-name : goal.invariant-loop-name
invariant-loop-name l =
    PrintsUpTo l.environment l.name-items (drop l.name-index l.name-items) (string_bytes l.text)
