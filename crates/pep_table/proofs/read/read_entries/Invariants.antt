use Rattle.std.proofs.Common.{length}
use denote.Text.{Utf8}
use denote.Shadow.{shadow}
use Rattle.pep_table.proofs.ReadTables.{TakenSoFar}
use Rattle.pep_table.specs.Way.EntryReading.{last_name}
use Rattle.pep_table.proofs.read.read_entries.Given as goal

-- entries are read and taken, and each table that has the text begins with them
abbrev pub invariant-loop-last : goal.invariant-loop-last
invariant-loop-last g l =
    shadow (Utf8 l.last) × shadow (Utf8 l.rest)
    × TakenSoFar (g.T.EntryTaker.takes l.taker) l.text (last_name l.last) l.initial.taken l.taken l.rest

abbrev pub decreases-loop-last : goal.decreases-loop-last
decreases-loop-last g l = length l.rest
