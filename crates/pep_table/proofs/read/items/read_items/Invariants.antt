use Rattle.std.proofs.Common.{length, map}
use denote.Text.{Utf8}
use denote.Shadow.{shadow}
use Rattle.pep_table.proofs.ReadItems.{LinesSoFar}
use Rattle.pep_table.specs.Way.TableReading.{AreItems}
use Rattle.pep_table.proofs.read.items.read_items.Given as goal

-- these lines are read, and all that a table may have in front begins with them
abbrev pub invariant-loop-line : goal.invariant-loop-line
invariant-loop-line g l = shadow (Utf8 l.rest)
    × LinesSoFar (g.K.LineKind.word l.kind) (AreItems (g.K.LineKind.is_item l.kind)) l.text
    (map g.K.Item.Kept.text l.items.items) l.rest

abbrev pub decreases-loop-line : goal.decreases-loop-line
decreases-loop-line g l = length l.rest
