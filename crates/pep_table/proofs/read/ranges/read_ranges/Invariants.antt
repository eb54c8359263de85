use Rattle.std.proofs.Common.{codes, length, map}
use denote.Text.{Utf8}
use denote.Shadow.{shadow}
use Rattle.pep_clause.specs.VersionSet.{IsNormal}
use Rattle.pep_table.proofs.ReadItems.{LinesSoFar}
use Rattle.pep_table.specs.Way.TableReading.{AreRanges}
use Rattle.pep_table.specs.TableText.{range_text}
use Rattle.pep_table.proofs.read.ranges.read_ranges.Given as goal

-- these lines are read, and all that a table may have in front begins with them
abbrev pub invariant-loop-line : goal.invariant-loop-line
invariant-loop-line l = shadow (Utf8 l.rest)
    × LinesSoFar (codes "range") AreRanges l.text (map range_text l.ranges.items) l.rest
    × IsNormal l.ranges.items

abbrev pub decreases-loop-line : goal.decreases-loop-line
decreases-loop-line l = length l.rest
