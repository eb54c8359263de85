use Rattle.std.proofs.Common.{◌≡◌, ◌++◌, codes, map, take}
use Rattle.pep_table.specs.TableText.{kind_lines, range_text}
use Rattle.pep_table.proofs.text.put_ranges.Given as goal

abbrev pub invariant-loop-range : goal.invariant-loop-range
invariant-loop-range g l =
    g.T.TextOut.tells → g.T.TextOut.written l.text ≡ g.T.TextOut.written l.initial.text
    ++ kind_lines (codes "range") (map range_text (take l.range-index l.ranges))
