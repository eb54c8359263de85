use Rattle.std.proofs.Common.{◌≡◌, ◌++◌, drop, map, string_bytes}
use Rattle.std.specs.List.{concat}
use Rattle.texts.specs.Lines.{line}
use Rattle.pep_table.specs.TableText.{range_text}
use Rattle.pep_c.proofs.ranges.lines_of.Given as goal

-- with the lines of the ranges that are left the text is whole
abbrev pub invariant-loop-range : goal.invariant-loop-range
invariant-loop-range l =
    string_bytes l.text ++ concat (map (λ r. line (range_text r)) (drop l.range-index l.ranges))
    ≡ concat (map (λ r. line (range_text r)) l.ranges)
